use Rattle.std.proofs.Common.{Bor, ◌≡◌, ℕ, List, map, refl, ap, sym, ◌∙◌, arith}
use Rattle.std.specs.Prelude.{length}
use Rattle.std.proofs.lemmas.List.{length-map}
use Rattle.std.proofs.lemmas.Option.{slice_get_read}
use Rattle.m3c_image_commands.specs.Statuses.{Shelving, shelving}
use Rattle.m3c_source_commands.specs.Texts.{names_of, texts_of}
use Rattle.m3c_source_commands.proofs.SourceLemmas.{reading_start, reading_more, reading_failed, reading_done, all_read, all_named, all_even, named_at}
use Rattle.m3c_source_commands.proofs.sources.fetch_sources.Goals as goal

pub files-init : goal.files-init
files-init g c = reading_start _ _ _ _ (ap (λ (names : List (Bor (List ℕ))). map (λ n. n.now) names) c.new-sources.ensures.names) (ap (λ texts. map (λ text. text.items) texts) c.new-sources.ensures.texts) (record { held = refl; faults = omega arith; store_faults = omega arith; absences = omega arith; excesses = omega arith })

pub files-preserved : goal.files-preserved
files-preserved g c =
    let a : Shelving = shelving g.F.Shelf c.args.shelf.now c.files.shelf in
    let b : Shelving = shelving g.F.Shelf c.files.shelf c.fetch_next.new.shelf in
    let files : List (List ℕ) = map (λ n. n.now) c.args.files.now in
    reading_more a b files (names_of c.files.sources) (names_of c.fetch_next.new.sources) (texts_of c.files.sources) (texts_of c.fetch_next.new.sources) c.in-Some.name.now.now c.files.place c.files.left c.in-Ok.rest c.fetch_next.result
    c.files.invariant (record { held = refl; faults = refl; store_faults = refl; absences = refl; excesses = refl }) c.fetch_next.ensures.fetches
    (named_at c.args.files.now c.files.place c.in-Some.name.now (slice_get_read c.args.files.now _ _ _ refl c.files-test.true c.in-Some.ensures.lookup.1)) c.in-Ok.ensures.read c.in-Ok.ensures.named

pub returns-in-Err : goal.returns-in-Err
returns-in-Err g c =
    let a : Shelving = shelving g.F.Shelf c.args.shelf.now c.files.shelf in
    let b : Shelving = shelving g.F.Shelf c.files.shelf c.fetch_next.new.shelf in
    let files : List (List ℕ) = map (λ n. n.now) c.args.files.now in
    record {
      fetches = reading_failed a b files (names_of c.files.sources) (texts_of c.files.sources) c.in-Some.name.now.now c.files.place c.files.left c.in-Err.refusal
          c.files.invariant (record { held = refl; faults = refl; store_faults = refl; absences = refl; excesses = refl }) c.in-Err.ensures.fetches
          (named_at c.args.files.now c.files.place c.in-Some.name.now (slice_get_read c.args.files.now _ _ _ refl c.files-test.true c.in-Some.ensures.lookup.1));
      read = tt;
      named = tt;
      even = tt;
    }

pub returns : goal.returns
returns g c =
    let files : List (List ℕ) = map (λ n. n.now) c.args.files.now in
    let at : c.files.place ≡ length c.args.files.now = omega (arith, c.files-test.false, c.files.auto.place-end) in
    let ended : c.files.place ≡ length files = at ∙ sym (length-map c.args.files.now (λ (n : Bor (List ℕ)). n.now)) in
    record {
      fetches = reading_done _ _ _ _ _ _ _ _ c.files.invariant;
      read = all_read _ files _ _ _ _ c.files.invariant ended;
      named = all_named _ files _ _ _ _ c.files.invariant ended;
      even = all_even _ files _ _ _ _ c.files.invariant ended;
    }
