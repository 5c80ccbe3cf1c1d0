use Rattle.std.proofs.Common.{rules, ◌≡◌, ◌++◌, ◌+◌, ℕ, List, [], ◌∷◌, length, length-append, None, refl, sym, subst, arith}
use Rattle.std.specs.Prelude.{IsTrue}
use Rattle.std.proofs.lemmas.List.{append_assoc}
use Rattle.m3_image_sections.specs.declared.procs.ProcPart.{ProcPart}
use Rattle.m3_image_sections.specs.PartViews.{procs_of}
use Rattle.m3_image_sections.specs.Forms.{procs_fit}
use Rattle.m3_image.specs.Programs.{fault_of}
use Rattle.m3_image_decoded.specs.Ready.{image_of}
use Rattle.m3_image_dump.specs.Texts.{proc_line, Adds, ProcsText, no_procs, procs}
use Rattle.m3_image_dump.proofs.CodeLemmas.{ends_in_code, joined}
use Rattle.m3_image_dump.proofs.lines.put_procs.Goals as goal

pub procs-init : goal.procs-init
procs-init c = ([], search rules, refl, record { part = []; added = search rules; is = no_procs })

pub put_code-requires : goal.put_code-requires
put_code-requires c =
    let done = c.procs.invariant in
    let all : done.0 ++ c.in-Some.proc ∷ procs_of c.next.new.self ≡ (image_of c.args.image.now).program.procs = rw c.in-Some.ensures.steps at done.1 in
    let fit : IsTrue (procs_fit (image_of c.args.image.now).program.procs) = subst (λ i. IsTrue (procs_fit i.program.procs)) c.image.ensures c.keeps_its_form.ensures.procs in
    let sound : fault_of (image_of c.args.image.now).program ≡ None = subst (λ i. fault_of i.program ≡ None) c.image.ensures c.keeps_its_form.ensures.sound in
    ends_in_code (image_of c.args.image.now).program done.0 c.in-Some.proc (procs_of c.next.new.self) fit sound all

pub procs-preserved : goal.procs-preserved
procs-preserved c =
    let all_procs = (image_of c.args.image.now).program.procs in
    let done = c.procs.invariant in
    let proc = c.in-Some.proc in
    let rest = procs_of c.next.new.self in
    let all : done.0 ++ proc ∷ rest ≡ all_procs = rw c.in-Some.ensures.steps at done.1 in
    let body = c.in_ok-put_code.ensures in
    let line : c.put_proc.new.text.items ≡ c.procs.text.items ++ proc_line (length done.0) proc =
    subst (λ n. c.put_proc.new.text.items ≡ c.procs.text.items ++ proc_line n proc) done.2 c.in_ok-put_proc.ensures in (
      done.0 ++ proc ∷ [],
      subst (λ ps. ps ≡ all_procs) (sym (append_assoc done.0 (proc ∷ []) rest)) all,
      omega (arith, length-append done.0 (proc ∷ []), done.2),
      record {
        part = done.3.part ++ proc_line (length done.0) proc ++ body.part;
        added = joined c.args.text.now.items done.3.part (proc_line (length done.0) proc) body.part c.procs.text.items c.put_proc.new.text.items c.put_code.new.text.items done.3.added line body.added;
        is = procs done.0 proc done.3.part body.part done.3.is body.is;
      },
    )
