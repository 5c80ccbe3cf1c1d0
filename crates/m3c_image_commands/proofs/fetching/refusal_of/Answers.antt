use Rattle.std.proofs.Common.{refl, sym, subst}
use Rattle.std.specs.Prelude.{codes}
use Rattle.m3c_image_commands.specs.Statuses.{Only, Unfetched, read_fault, no_memory, absent, too_long}
use Rattle.m3c_image_commands.proofs.fetching.refusal_of.Goals as goal

pub returns-in-Absent : goal.returns-in-Absent
returns-in-Absent c = λ shelf cap causes. let a = causes.absent c.in-Absent.is in subst (λ n. Unfetched shelf (Only c.args.name.now cap) 6 (codes "absent ") n) (sym c.as_bytes-name.ensures.value) (absent c.args.name.now cap (refl, refl) a.0 a.1)

pub returns-in-TooLong : goal.returns-in-TooLong
returns-in-TooLong c = λ shelf cap causes. let t = causes.too_long c.in-TooLong.is in subst (λ n. Unfetched shelf (Only c.args.name.now cap) 7 (codes "too long ") n) (sym c.as_bytes-name.ensures.value) (too_long c.args.name.now cap (refl, refl) t.0 t.1)

pub returns-in-Failed : goal.returns-in-Failed
returns-in-Failed c = λ shelf cap causes. subst (λ n. Unfetched shelf (Only c.args.name.now cap) 3 (codes "read fault ") n) (sym c.as_bytes-name.ensures.value) (read_fault c.args.name.now cap (refl, refl) (causes.failed c.in-Failed.is))

pub returns-in-NoMemory : goal.returns-in-NoMemory
returns-in-NoMemory c = λ shelf cap causes. no_memory
