-- No command that was carried out has the status of words that ask for nothing.
use Rattle.std.proofs.Common.{◌≡◌, ◌∙◌, ◌⊎◌, ℕ, Bool, false, List, [], sym, subst, inl, inr, arith}
use Rattle.std.specs.Prelude.{Result, Ok, Err, is_some}
use Rattle.m3_base.specs.declared.outcomes.Entry.{Entry}
use Rattle.m3_base.specs.declared.outcomes.Outcome.{Outcome}
use Rattle.m3_base.specs.declared.outcomes.Outcome.TheVariants.{Done, Fault, Uncaught, Deadlock, ThreadsFull, Spent, HeapFull, StackFull, Trap}
use Rattle.m3_image_sections.specs.Parts.{Image}
use Rattle.m3c_image_commands.specs.declared.answers.Answer.{Answer}
use Rattle.m3c_image_commands.specs.declared.answers.Refusal.{Refusal}
use Rattle.m3c_image_commands.specs.Statuses.{Shelving, Putting, PutsNothing, Only, IsRead, image_cap, LacksMemory, LacksOutput, Cuts, Refuses, Unfetched, read_fault, no_memory, absent, too_long, Tells}
use Rattle.m3c_image_commands.specs.Reports.{Setting, Ended, end_status, within}
use Rattle.m3c_image_commands.specs.ImageCommands.{on_input, ImageAnswer, image_refused, ended, RunAnswer, DumpAnswer, not_dumped, dumped, CutsDump, no_memory as no_more, not_put}
use Rattle.m3c_inspect_command.specs.Inspecting.{BytesAnswer, CutsBytes, InspectAnswer, Inspected, ended as run_to_end, image_refused as not_inspected, inspected, shown, unframed}
use Rattle.m3c_source_commands.specs.Judging.{Judgement, OfSome}
use Rattle.m3c_source_commands.specs.SourceCommands.{BuildAnswer, not_built, stored, ExecAnswer, not_run, no_schedule, run_ended, IsOfNumber}
use Rattle.m3c_source_commands.specs.Orders.{Order, build, run, exec, dump, bench, inspect, Fulfils, bench_setting}

-- ---- answers

end_other : (outcome : Outcome) → end_status outcome ≡ 2 → ⊥
end_other Done e = omega arith
end_other (Fault kind file line) e = omega arith
end_other (Uncaught exception) e = omega arith
end_other Deadlock e = omega arith
end_other ThreadsFull e = omega arith
end_other Spent e = omega arith
end_other HeapFull e = omega arith
end_other StackFull e = omega arith
end_other (Trap n) e = omega arith

ended_other : (i : Image) (setting : Setting) (tells : Bool) (out : Putting) (status : ℕ) (line : List ℕ) → Ended i setting tells out status line → status ≡ 2 → ⊥
ended_other i setting tells out status line h e = end_other h.outcome (sym h.by_status ∙ e)

nine_other : (status : ℕ) → status ≡ 9 → status ≡ 2 → ⊥
nine_other status n e = omega arith

image_other : (image : List ℕ) (setting : Setting) (tells : Bool) (out : Putting) (status : ℕ) (line : List ℕ) → ImageAnswer image setting tells out status line → status ≡ 2 → ⊥
image_other image setting tells out status line (image_refused r bad p) e = omega arith
image_other image setting tells out status line (ended i s l read h) e = ended_other i setting tells out status line h e

run_other : (image switches : List ℕ) (setting : Setting) (tells : Bool) (out : Putting) (status : ℕ) (line : List ℕ) → RunAnswer image switches setting tells out status line → status ≡ 2 → ⊥
run_other image switches setting tells out status line (inl h) e = image_other image _ tells out status line h.2 e
run_other image switches setting tells out status line (inr h) e = nine_other status h.0.0 e

dump_other : (image : List ℕ) (out : Putting) (status : ℕ) (line : List ℕ) → DumpAnswer image out status line → status ≡ 2 → ⊥
dump_other image out status line (not_dumped r bad p) e = omega arith
dump_other image out status line (dumped i text read says took) e = omega arith

build_other : (judges : Judgement) (shelf : Shelving) (files texts : List (List ℕ)) (name image : List ℕ) (status : ℕ) (line : List ℕ) → BuildAnswer judges shelf files texts name image status line → status ≡ 2 → ⊥
build_other judges shelf files texts name image status line (not_built l other r s) e = omega arith
build_other judges shelf files texts name image status line (stored ok s) e = omega arith

exec_other : (judges : Judgement) (files texts : List (List ℕ)) (image switches : List ℕ) (MayRunBy : List Entry → Type 0) (setting : Setting) (tells : Bool) (out : Putting) (status : ℕ) (line : List ℕ) → ExecAnswer judges files texts image switches MayRunBy setting tells out status line → status ≡ 2 → ⊥
exec_other judges files texts image switches MayRunBy setting tells out status line (not_run l other r p) e = omega arith
exec_other judges files texts image switches MayRunBy setting tells out status line (no_schedule s l of h) e = nine_other status h.0 e
exec_other judges files texts image switches MayRunBy setting tells out status line (run_ended i schedule s l of read may h) e = ended_other i _ tells out status line h e

inspected_other : (i : Image) (setting : Setting) (tells : Bool) (out : Putting) (status : ℕ) (line : List ℕ) → Inspected i setting tells out status line → status ≡ 2 → ⊥
inspected_other i setting tells out status line (shown to s stops is took) e = omega arith
inspected_other i setting tells out status line (unframed to number stops is p) e = omega arith
inspected_other i setting tells out status line (run_to_end to outcome stops other p) e = end_other outcome e

inspect_other : (image : List ℕ) (setting : Setting) (tells : Bool) (out : Putting) (status : ℕ) (line : List ℕ) → InspectAnswer image setting tells out status line → status ≡ 2 → ⊥
inspect_other image setting tells out status line (not_inspected r bad p) e = omega arith
inspect_other image setting tells out status line (inspected i s l read h) e = inspected_other i setting tells out status line h e

view_other : (image switches : List ℕ) (setting : Setting) (tells : Bool) (out : Putting) (status : ℕ) (line : List ℕ) → BytesAnswer image switches setting tells out status line → status ≡ 2 → ⊥
view_other image switches setting tells out status line (inl h) e = inspect_other image _ tells out status line h.2 e
view_other image switches setting tells out status line (inr h) e = nine_other status h.0.0 e

-- ---- refusals

unfetched_other : (shelf : Shelving) (Reads : List ℕ → ℕ → Type 0) (status : ℕ) (front name : List ℕ) → Unfetched shelf Reads status front name → status ≡ 2 → ⊥
unfetched_other shelf Reads status front name (read_fault n cap of rose) e = omega arith
unfetched_other shelf Reads status front name no_memory e = omega arith
unfetched_other shelf Reads status front name (absent n cap of rose free) e = omega arith
unfetched_other shelf Reads status front name (too_long n cap of rose over) e = omega arith

memory_other : (r : Refusal) → LacksMemory r → r.status ≡ 2 → ⊥
memory_other r h e = let five = h.status in omega arith

output_other : (r : Refusal) → LacksOutput r → r.status ≡ 2 → ⊥
output_other r h e = let four = h.status in omega arith

cut_other : (out : Putting) (r : Refusal) → Cuts out r → r.status ≡ 2 → ⊥
cut_other out r (inl h) e = memory_other r h.0 e
cut_other out r (inr h) e = output_other r h.0 e

refused_other : (shelf : Shelving) (Reads : List ℕ → ℕ → Type 0) (out : Putting) (r : Refusal) → Refuses shelf Reads out r → r.status ≡ 2 → ⊥
refused_other shelf Reads out r (inl h) e = unfetched_other shelf Reads r.status r.front.now r.name.now h.0 e
refused_other shelf Reads out r (inr h) e = cut_other out r h e

cut_dump_other : (image : List ℕ) (out : Putting) (r : Refusal) → CutsDump image out r → r.status ≡ 2 → ⊥
cut_dump_other image out r (no_more m p) e = memory_other r m e
cut_dump_other image out r (not_put i text read says lacks rose front) e = output_other r lacks e

not_dumped_other : (shelf : Shelving) (name image : List ℕ) (out : Putting) (r : Refusal)
    → (Unfetched shelf (Only name image_cap) r.status r.front.now r.name.now × PutsNothing out) ⊎ (IsRead shelf.held.0 name image_cap image × CutsDump image out r) → r.status ≡ 2 → ⊥
not_dumped_other shelf name image out r (inl u) e = unfetched_other shelf (Only name image_cap) r.status r.front.now r.name.now u.0 e
not_dumped_other shelf name image out r (inr d) e = cut_dump_other image out r d.1 e

cut_view_other : (image switches : List ℕ) (setting : Setting) (out : Putting) (r : Refusal) → CutsBytes image switches setting out r → r.status ≡ 2 → ⊥
cut_view_other image switches setting out r (inl h) e = memory_other r h.0 e
cut_view_other image switches setting out r (inr h) e = output_other r h.4.lacks e

-- ---- commands

-- the status of an answer or of a refusal
abbrev pub result_status : Result Answer Refusal → ℕ
result_status (Ok a) = a.status
result_status (Err r) = r.status

fulfilled_other : (judges : Judgement) (order : Order) (shelf : Shelving) (out : Putting) (image : List ℕ) (result : Result Answer Refusal) → Fulfils judges order shelf out image result → result_status result ≡ 2 → ⊥
fulfilled_other judges (build name files) shelf out image (Ok a) h e = build_other judges shelf files h.0.0 name image a.status a.line.items h.0.2 e
fulfilled_other judges (build name files) shelf out image (Err r) (inl f, p) e = unfetched_other shelf _ r.status r.front.now r.name.now f.0 e
fulfilled_other judges (build name files) shelf out image (Err r) (inr (inl m), p) e = memory_other r m.0 e
fulfilled_other judges (build name files) shelf out image (Err r) (inr (inr o), p) e = output_other r o.0 e
fulfilled_other judges (run name options) shelf out image (Ok a) h e = run_other image h.answer.1.0 (on_input (within options.bounds) h.answer.1.1) (is_some options.switches) out a.status a.line.items h.answer.1.4 e
fulfilled_other judges (run name options) shelf out image (Err r) h e = refused_other shelf _ out r h.refusal e
fulfilled_other judges (exec files options) shelf out image (Ok a) h e = exec_other judges files h.answer.0 image _ _ _ (is_some options.switches) out a.status a.line.items h.answer.2.4 e
fulfilled_other judges (exec files options) shelf out image (Err r) h e = refused_other shelf _ out r h.refusal e
fulfilled_other judges (dump name) shelf out image (Ok a) h e = dump_other image out a.status a.line.items h.answer.1 e
fulfilled_other judges (dump name) shelf out image (Err r) h e = not_dumped_other shelf name image out r h.refusal e
fulfilled_other judges (bench number) shelf out image (Ok a) h e = exec_other (OfSome judges) [] [] image [] (IsOfNumber number) bench_setting false out a.status a.line.items h.0 e
fulfilled_other judges (bench number) shelf out image (Err r) h e = cut_other out r h.0.0 e
fulfilled_other judges (inspect name options) shelf out image (Ok a) h e = view_other image h.answer.1.0 (on_input (within options.bounds) h.answer.1.1) (is_some options.switches) out a.status a.line.items h.answer.1.4 e
fulfilled_other judges (inspect name options) shelf out image (Err r) h e =
    elim h.refusal [
      | inl u ↦ unfetched_other shelf _ r.status r.front.now r.name.now u.0 e
      | inr d ↦ cut_view_other image d.1.0 (on_input (within options.bounds) d.1.1) out r d.1.4 e
    ]

told_other : (err : Putting) (result : Result Answer Refusal) → Tells err result 2 → result_status result ≡ 2
told_other err (Ok a) (inl h) = sym h.0
told_other err (Ok a) (inr h) = let no = h.0 in absurd (omega arith)
told_other err (Err r) (inl h) = sym h.0
told_other err (Err r) (inr h) = let no = h.0 in absurd (omega arith)

pub never_usage : (judges : Judgement) (order : Order) (shelf : Shelving) (out err : Putting) (image : List ℕ) (result : Result Answer Refusal) (told : ℕ) → Fulfils judges order shelf out image result → Tells err result told → told ≡ 2 → ⊥
never_usage judges order shelf out err image result told h t e =
    fulfilled_other judges order shelf out image result h (told_other err result (subst (λ (n : ℕ). Tells err result n) e t))
