use Rattle.std.proofs.Common.{◌≡◌, ℕ, List, length, [], subst, sym, ap, arith}
use Rattle.std.specs.Prelude.{replicate}
use Rattle.m3_threads.specs.PlacesInside.{HaveRoom, contents}
use Rattle.m3_threads.proofs.StackWords.{blank-more, room-push}
use Rattle.m3_threads.proofs.stacks.blank_stacks.Goals as goal

pub loop-slot-init : goal.loop-slot-init
loop-slot-init c = record {
  blank = ap contents c.in_ok-stacks.ensures.items;
  count = c.in_ok-stacks.ensures.len;
  room = c.in_ok-stacks.ensures.capacity;
  rooms = subst (HaveRoom c.args.words) (sym c.in_ok-stacks.ensures.items) (λ k v g. cc);
}

pub push_reserved-requires : goal.push_reserved-requires
push_reserved-requires c = let i = c.loop-slot.invariant in omega arith

pub loop-slot-preserved : goal.loop-slot-preserved
loop-slot-preserved c =
    let i = c.loop-slot.invariant in
    let v = c.in_ok-with_capacity.field-0 in
    let vs = c.loop-slot.stacks.items in
    record {
      blank = blank-more vs c.push_reserved.new.self.items v c.loop-slot._slot [] i.blank c.in_ok-with_capacity.ensures.items c.push_reserved.ensures.items;
      count = omega (arith, c.push_reserved.ensures.len);
      room = omega (arith, c.push_reserved.ensures.capacity);
      rooms = room-push c.args.words vs c.push_reserved.new.self.items v i.rooms (
        c.in_ok-with_capacity.ensures.capacity,
        let none = ap (λ (ws : List ℕ). length ws) c.in_ok-with_capacity.ensures.items in omega arith,
      ) c.push_reserved.ensures.items;
    }

pub returns-clause-blank : goal.returns-clause-blank
returns-clause-blank c =
    let i = c.loop-slot.invariant in
    let all : c.loop-slot._slot ≡ c.args.slots = omega arith in
    subst (λ n. contents c.loop-slot.stacks.items ≡ replicate n []) all i.blank
