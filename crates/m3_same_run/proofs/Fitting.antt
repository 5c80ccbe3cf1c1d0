-- States that are set fit.
use Rattle.std.proofs.Common.{◌≡◌, ℕ, suc, Bool, true, false, List, [], ap, arith}
use Rattle.std.specs.Prelude.{◌==◌, if◌then◌else◌, Option, Some, None}
use Rattle.std.specs.Option.{option_map}
use Rattle.std.proofs.lemmas.Bool.Decides.{nat_tests}
use Rattle.m3_mid.specs.declared.procs.End.{End}
use Rattle.m3_mid.specs.declared.ops.MidOp.{MidOp}
use Rattle.m3_mid_meaning.specs.Words.{Word, IsNormal, normal}
use Rattle.m3_mid_meaning.specs.Memory.{Memory, Around}
use Rattle.m3_mid_meaning.specs.States.{State, state_with, with_memory, with_own}
use Rattle.m3_mid_meaning.proofs.WordSums.{normal_is}
use Rattle.m3_same_forms.specs.declared.forms.Symbol.{Symbol}
use Rattle.m3_same_forms.specs.declared.forms.Symbol.TheVariants as symbols
use Rattle.m3_same_forms.specs.declared.forms.Tag.TheVariants as tags
use Rattle.m3_same_forms.specs.Forms.{Form, Query, Setting, same_symbol}
use Rattle.m3_same_forms.specs.Seen.{asks}
use Rattle.m3_same_forms.specs.Sides.{form_at}
use Rattle.m3_same_forms.specs.Facts.{lasts, is_other_slot}
use Rattle.m3_same_run.specs.Check.{Standing, left_form, right_form, setting, set_left, set_right, learn, forget, at_ops, new_word, newest}
use Rattle.m3_same_forms.specs.Meaning.{Old, OldQuery, eval, Means, AllMean, with_new, IsWords, Says}
use Rattle.m3_same_run.specs.Fits.{Fits}
use Rattle.m3_same_forms.proofs.Sums.{eval_normal, means_still}
use Rattle.m3_same_forms.proofs.Events.{with_temps}
use Rattle.m3_same_forms.proofs.Knowing.{kept_true, lasting, other_slots, true_still}

means_if : (v : Symbol → Word) (n : ℕ) (a b : Form) (w x : Word) (t : Bool) → Means v n a w → Means v n b x → Means v n (if t then a else b) (if t then w else x)
means_if v n a b w x true h i = h
means_if v n a b w x false h i = i

-- a temporary is set, and its form too
pub set_mean : (v : Symbol → Word) (n : ℕ) (common : Option (List Bool)) (xs : List Setting) (s : State) (to : ℕ) (a : Form) (w : Word) → AllMean v n (form_at common xs) s.temps → Means v n a (normal w) → AllMean v n (form_at common (setting to a xs)) (state_with s to w).temps
set_mean v n common xs s to a w h m t = means_if v n a (form_at common xs t) (normal w) (s.temps t) (t == to) m (h t)

itself : (n : ℕ) → (n == n) ≡ true
itself n = grind (arith, nat_tests)

pub newest_old : (n : ℕ) → Old (suc n) (newest n)
newest_old n = (omega arith, tt)

module _ (around : Around) where
  normal_if : (w x : Word) (b : Bool) → IsNormal w → IsNormal x → IsNormal (if b then w else x)
  normal_if w x true h k = h
  normal_if w x false h k = k

  pub words_new : (v : Symbol → Word) (n : ℕ) (w : Word) → IsNormal w → IsWords around v → IsWords around (with_new v n w)
  words_new v n w h ws = record {
    normals = λ s. normal_if w (v s) (same_symbol s (symbols.New n)) h (ws.normals s);
    one = ws.one;
    frame = ws.frame;
    globals = ws.globals;
    text = ws.text;
    constant = ws.constant;
  }

  module _ (common : List Bool) (v : Symbol → Word) (st : Standing) (s s' : State) (fits : Fits around common v st s s') where
    pub fits_left : (to : ℕ) (a : Form) (w : Word) → Means v st.fresh a (normal w) → Fits around common v (set_left st to a) (state_with s to w) s'
    fits_left to a w h = record {
      words = fits.words;
      left = set_mean v st.fresh None st.left s to a w fits.left h;
      right = fits.right;
      rest = fits.rest;
      knowns = fits.knowns;
    }

    pub fits_right : (to : ℕ) (a : Form) (w : Word) → Means v st.fresh a (normal w) → Fits around common v (set_right st to a) s (state_with s' to w)
    fits_right to a w h = record {
      words = fits.words;
      left = fits.left;
      right = set_mean v st.fresh (Some common) st.right s' to a w fits.right h;
      rest = ap (λ z. with_temps z (state_with s' to w).temps) fits.rest;
      knowns = fits.knowns;
    }

    pub fits_at : (rest : List MidOp) → Fits around common v (at_ops st rest) s s'
    fits_at rest = record { words = fits.words; left = fits.left; right = fits.right; rest = fits.rest; knowns = fits.knowns }

    pub fits_in : (rest : List MidOp) (end : End) → Fits around common v (record st { ops = rest; end = end }) s s'
    fits_in rest end = record { words = fits.words; left = fits.left; right = fits.right; rest = fits.rest; knowns = fits.knowns }

    pub fits_learn : (x : Query) (a : Form) → OldQuery st.fresh x → Old st.fresh a → Says around v s.own s.environment s.memory x a → Fits around common v (learn st x a) s s'
    fits_learn x a o p h = record { words = fits.words; left = fits.left; right = fits.right; rest = fits.rest; knowns = (o, p, h, fits.knowns) }

    pub fits_new : (w : Word) → IsNormal w → Fits around common (with_new v st.fresh w) (new_word st) s s'
    fits_new w h = record {
      words = words_new v st.fresh w h fits.words;
      left = λ t. means_still v st.fresh w (left_form st t) (s.temps t) (fits.left t);
      right = λ t. means_still v st.fresh w (right_form common st t) (s'.temps t) (fits.right t);
      rest = fits.rest;
      knowns = true_still around v st.fresh w s.own s.environment s.memory st.knowns fits.knowns;
    }

    -- both have another memory
    pub fits_memory : (m : Memory) → Fits around common v (forget lasts st) (with_memory s m) (with_memory s' m)
    fits_memory m = record {
      words = fits.words;
      left = fits.left;
      right = fits.right;
      rest = ap (λ z. with_memory z m) fits.rest;
      knowns = kept_true around v st.fresh lasts s.own s.own s.environment s.environment s.memory m (lasting around s.own s.environment s.memory m) st.knowns fits.knowns;
    }

    own_says : (n : ℕ) (a : Form) (b : Bool) → b ≡ true → option_map normal (if b then Some (eval v a) else s.own n) ≡ Some (eval v a)
    own_says n a true e = ap (λ z. Some z) (normal_is (eval v a) (eval_normal v a))
    own_says n a false e = absurd (let bad : false ≡ true = e in cc)

    -- both have another word in an own slot
    pub fits_own : (n : ℕ) (a : Form) → Old st.fresh a → Fits around common v (learn (forget (is_other_slot n) st) (asks (tags.OwnSlot n) [] [] []) a) (with_own s n (eval v a)) (with_own s' n (eval v a))
    fits_own n a old = record {
      words = fits.words;
      left = fits.left;
      right = fits.right;
      rest = ap (λ z. with_own z n (eval v a)) fits.rest;
      knowns = (
        (tt, tt, tt),
        old,
        own_says n a (n == n) (itself n),
        kept_true around v st.fresh (is_other_slot n) s.own (λ m. if m == n then Some (eval v a) else s.own m) s.environment s.environment s.memory s.memory (other_slots around n (Some (eval v a)) s.own s.environment s.memory) st.knowns fits.knowns,
      );
    }
