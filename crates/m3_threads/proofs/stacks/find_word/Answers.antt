use Rattle.std.proofs.Common.{◌<◌, ◌≤◌, length, refl, ap, arith}
use Rattle.m3_threads.specs.PlacesInside.{contents}
use Rattle.m3_threads.proofs.StackWords.{content_at, count-contents, slot_of, word-here, word-past, word-behind}
use Rattle.m3_threads.proofs.stacks.find_word.Goals as goal
use Rattle.m3_threads.proofs.stacks.find_word.Goals.{else-slot-len-via-then-slot-len+else-place-len, else-slot-len-via-else-slot-len}

pub returns-then-place-len : goal.returns-then-place-len
returns-then-place-len c =
    let v = c.args.stacks.now in
    let vs = v.items in
    let at = c.args.at in
    let count = count-contents vs in
    let low : slot_of at < length vs = omega (arith, v.ok.0, c.len.ensures, c.if-slot-len.true) in
    let content = ap length (content_at vs (slot_of at) c.index.result.now low c.index.ensures) in
    let r = word-here (contents vs) at (omega arith) (omega (arith, v.ok.0, c.requires)) (omega arith) (omega (arith, c.if-place-len.true, c.len-then-slot-len.ensures, c.index.result.now.ok.0)) in
    (r.0, r.1, refl)

pub returns-else-slot-len : goal.returns-else-slot-len
returns-else-slot-len c =
    let v = c.args.stacks.now in
    let vs = v.items in
    let at = c.args.at in
    let count = count-contents vs in
    let few : length (contents vs) ≤ 64 = omega (arith, v.ok.0, c.requires) in
    elim c.else-slot-len.branch [
      | else-slot-len-via-then-slot-len+else-place-len w ↦
          let low : slot_of at < length vs = omega (arith, v.ok.0, c.len.ensures, w.if-slot-len.true) in
          let content = ap length (content_at vs (slot_of at) w.index.result.now low w.index.ensures) in
          word-behind (contents vs) at (omega arith) few (omega arith) (omega (arith, w.if-place-len.false, w.len-then-slot-len.ensures, w.index.result.now.ok.0))
      | else-slot-len-via-else-slot-len w ↦ word-past (contents vs) at (omega arith) few (omega (arith, v.ok.0, c.len.ensures, w.if-slot-len.false))
    ]
