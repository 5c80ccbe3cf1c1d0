-- The rows of the table of statuses.
use Rattle.std.proofs.Common.{◌≡◌, ℕ, List, [], ◌++◌, Some, refl, sym, ap, ◌∙◌, subst, inl, inr, ◌⊎◌, arith}
use Rattle.std.specs.Prelude.{IfSome, codes, false, Ok}
use Rattle.m3_base.specs.declared.outcomes.FaultKind.TheVariants.{Overflow}
use Rattle.m3_base.specs.declared.outcomes.Outcome.{Outcome}
use Rattle.m3_base.specs.declared.outcomes.Outcome.TheVariants.{Done, Fault}
use Rattle.m3_ports.specs.Files.{IsNotHeld, IsHeldOver}
use Rattle.m3_image.specs.Images.{read_of}
use Rattle.m3_plain.specs.Terms.{Term, outcome_of}
use Rattle.m3_plain.specs.PlainForm.{IsPlain}
use Rattle.m3_plain_image.specs.Image.{plain_image}
use Rattle.m3c_image_commands.specs.declared.answers.Refusal.{Refusal}
use Rattle.m3c_image_commands.specs.Statuses.{CountRose, Took, Only, Unfetched, read_fault, no_memory, absent, too_long, LacksMemory, Says as SaysLine}
use Rattle.m3c_image_commands.specs.Reports.{Ended, end_status}
use Rattle.m3c_source_commands.specs.Orders.{usual_setting}
use Rattle.m3c.specs.Command.{Call, IsSilent, Says, IsRead, PutFailed, Ran, Refuses, Answers, file_cap}
use Rattle.m3c.proofs.PlainRuns.{Whole, plain_end, whole_run}

-- ---- one row

pub row_write_fault : (call : Call) → PutFailed call ⊎ CountRose call.err.faults → Answers call 4
row_write_fault call row = record {
  known = refl;
  done = λ e. absurd (omega arith);
  read_fault = λ e. absurd (omega arith);
  write_fault = λ e. row;
  no_memory = λ e. absurd (omega arith);
  absent = λ e. absurd (omega arith);
  too_long = λ e. absurd (omega arith);
  fault = λ e. absurd (omega arith);
}

pub row_no_memory : (call : Call) → IsSilent call × Says call (codes "out of memory") → Answers call 5
row_no_memory call row = record {
  known = refl;
  done = λ e. absurd (omega arith);
  read_fault = λ e. absurd (omega arith);
  write_fault = λ e. absurd (omega arith);
  no_memory = λ e. row;
  absent = λ e. absurd (omega arith);
  too_long = λ e. absurd (omega arith);
  fault = λ e. absurd (omega arith);
}

row_done : (call : Call) → Ran call Done → Answers call 0
row_done call row = record {
  known = refl;
  done = λ e. row;
  read_fault = λ e. absurd (omega arith);
  write_fault = λ e. absurd (omega arith);
  no_memory = λ e. absurd (omega arith);
  absent = λ e. absurd (omega arith);
  too_long = λ e. absurd (omega arith);
  fault = λ e. absurd (omega arith);
}

row_fault : (call : Call) → (line : ℕ) × Ran call (Fault Overflow 0 line) → Answers call 10
row_fault call row = record {
  known = refl;
  done = λ e. absurd (omega arith);
  read_fault = λ e. absurd (omega arith);
  write_fault = λ e. absurd (omega arith);
  no_memory = λ e. absurd (omega arith);
  absent = λ e. absurd (omega arith);
  too_long = λ e. absurd (omega arith);
  fault = λ e. row;
}

-- ---- a file that can't be fetched

row_read_fault : (call : Call) → Refuses call (codes "read fault") (λ name. CountRose call.shelf.faults) → Answers call 3
row_read_fault call row = record {
  known = refl;
  done = λ e. absurd (omega arith);
  read_fault = λ e. row;
  write_fault = λ e. absurd (omega arith);
  no_memory = λ e. absurd (omega arith);
  absent = λ e. absurd (omega arith);
  too_long = λ e. absurd (omega arith);
  fault = λ e. absurd (omega arith);
}

row_absent : (call : Call) → Refuses call (codes "absent") (λ name. CountRose call.shelf.absences × IfSome call.shelf.held.0 (λ files. IsNotHeld files name)) → Answers call 6
row_absent call row = record {
  known = refl;
  done = λ e. absurd (omega arith);
  read_fault = λ e. absurd (omega arith);
  write_fault = λ e. absurd (omega arith);
  no_memory = λ e. absurd (omega arith);
  absent = λ e. row;
  too_long = λ e. absurd (omega arith);
  fault = λ e. absurd (omega arith);
}

row_too_long : (call : Call) → Refuses call (codes "too long") (λ name. CountRose call.shelf.excesses × IfSome call.shelf.held.0 (λ files. IsHeldOver files name file_cap)) → Answers call 7
row_too_long call row = record {
  known = refl;
  done = λ e. absurd (omega arith);
  read_fault = λ e. absurd (omega arith);
  write_fault = λ e. absurd (omega arith);
  no_memory = λ e. absurd (omega arith);
  absent = λ e. absurd (omega arith);
  too_long = λ e. row;
  fault = λ e. absurd (omega arith);
}

row_unfetched : (call : Call) (file : List ℕ) (status : ℕ) (front name : List ℕ) → call.file ≡ Some file → IsSilent call → Unfetched call.shelf (Only file file_cap) status front name → Took call.err.taken (front ++ name ++ codes "\n") → Answers call status
row_unfetched call file status front name named silent (read_fault n c only rose) said =
    row_read_fault call (record { name = n; named = named ∙ ap Some (sym only.0); holds = rose; silent = silent; says = said })
row_unfetched call file status front name named silent no_memory said = row_no_memory call (silent, said)
row_unfetched call file status front name named silent (absent n c only rose none) said =
    row_absent call (record { name = n; named = named ∙ ap Some (sym only.0); holds = (rose, none); silent = silent; says = said })
row_unfetched call file status front name named silent (too_long n c only rose over) said =
    row_too_long call (record {
      name = n;
      named = named ∙ ap Some (sym only.0);
      holds = (rose, subst (λ (cap : ℕ). IfSome call.shelf.held.0 (λ files. IsHeldOver files n cap)) only.1 over);
      silent = silent;
      says = said;
    })

pub fetch_refused : (call : Call) (file : List ℕ) (status told : ℕ) (front name : List ℕ) → call.file ≡ Some file → IsSilent call → Unfetched call.shelf (Only file file_cap) status front name → SaysLine call.err status (front ++ name ++ codes "\n") told → Answers call told
fetch_refused call file status told front name named silent u (inl t) = subst (λ (s : ℕ). Answers call s) (sym t.0) (row_unfetched call file status front name named silent u t.1)
fetch_refused call file status told front name named silent u (inr t) = subst (λ (s : ℕ). Answers call s) (sym t.0) (row_write_fault call (inr t.1))

-- ---- a file that was read

-- the run of the image of a file in the plain form
module _ (call : Call) (name text : List ℕ) (puts : List Term) (read : IsRead call name text) (plain : IsPlain text puts) (only : (others : List Term) → IsPlain text others → others ≡ puts) (bytes : read_of call.image ≡ Ok (plain_image name puts)) where
  ran : (status : ℕ) (line : List ℕ) → Whole name puts call.out status line → Took call.err.taken line → Ran call (outcome_of puts)
  ran status line w said = record {
    name = name;
    text = text;
    read = read;
    puts = puts;
    plain = plain;
    only = only;
    ends = refl;
    image = bytes;
    last = w.last;
    run = w.run;
    points = w.points;
    output = w.output;
    says = subst (λ (l : List ℕ). Took call.err.taken l) w.by_line said;
  }

  -- the status of an end
  row_ran : (outcome : Outcome) (status : ℕ) → (outcome ≡ Done) ⊎ ((at : ℕ) × (outcome ≡ Fault Overflow 0 at)) → status ≡ end_status outcome → Ran call outcome → Answers call status
  row_ran outcome status (inl e) s row = subst (λ (n : ℕ). Answers call n) (sym (s ∙ ap end_status e)) (row_done call (subst (λ (o : Outcome). Ran call o) e row))
  row_ran outcome status (inr e) s row = subst (λ (n : ℕ). Answers call n) (sym (s ∙ ap end_status e.1)) (row_fault call (e.0, subst (λ (o : Outcome). Ran call o) e.1 row))

  pub row_run : (status told : ℕ) (line : List ℕ) → Ended (plain_image name puts) usual_setting false call.out status line → SaysLine call.err status line told → Answers call told
  row_run status told line ended (inl t) =
      let w = whole_run text name puts call.out status line plain ended in
      row_ran (outcome_of puts) told (plain_end puts) (t.0 ∙ w.by_status) (ran status line w t.1)
  row_run status told line ended (inr t) = subst (λ (s : ℕ). Answers call s) (sym t.0) (row_write_fault call (inr t.1))

-- ---- a refusal

-- no file can be read
pub row_fetch : (call : Call) (file : List ℕ) (r : Refusal) (told : ℕ) → call.file ≡ Some file → IsSilent call → Unfetched call.shelf (Only file file_cap) r.status r.front.now r.name.now → SaysLine call.err r.status (r.front.now ++ r.name.now ++ codes "\n") told → Answers call told
row_fetch call file r told named silent u says = fetch_refused call file r.status told r.front.now r.name.now named silent u says

-- memory ran out
pub row_memory : (call : Call) (r : Refusal) (told : ℕ) → LacksMemory r → IsSilent call → SaysLine call.err r.status (r.front.now ++ r.name.now ++ codes "\n") told → Answers call told
row_memory call r told lacks silent (inr t) = subst (λ (s : ℕ). Answers call s) (sym t.0) (row_write_fault call (inr t.1))
row_memory call r told lacks silent (inl t) = subst (λ (s : ℕ). Answers call s) (sym (t.0 ∙ lacks.status)) (row_no_memory call (silent, said lacks.front lacks.name t.1))
  where
    said : r.front.now ≡ codes "out of memory" → r.name.now ≡ [] → Took call.err.taken (r.front.now ++ r.name.now ++ codes "\n") → Took call.err.taken (codes "out of memory" ++ codes "\n")
    said f n took = subst (λ (l : List ℕ). Took call.err.taken (codes "out of memory" ++ l ++ codes "\n")) n (subst (λ (l : List ℕ). Took call.err.taken (l ++ r.name.now ++ codes "\n")) f took)

-- a put failed
pub row_put : (call : Call) (status told : ℕ) (line : List ℕ) → status ≡ 4 → PutFailed call → SaysLine call.err status line told → Answers call told
row_put call status told line four failed (inl t) = subst (λ (s : ℕ). Answers call s) (sym (t.0 ∙ four)) (row_write_fault call (inl failed))
row_put call status told line four failed (inr t) = subst (λ (s : ℕ). Answers call s) (sym t.0) (row_write_fault call (inr t.1))
