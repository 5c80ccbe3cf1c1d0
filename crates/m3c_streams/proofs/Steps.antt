-- What is taken in several steps.
use Rattle.std.proofs.Common.{◌≡◌, ◌≤◌, ℕ, ◌+◌, ◌++◌, List, [], Option, None, Some, IfSome, Result, Ok, Err, OnErr, length, is_some, refl, sym, ap, subst, ◌∙◌, arith, append_assoc, append-nil, length-append}
use Rattle.std.specs.Option.{option_map}
use Rattle.m3_ports.specs.Counts.{Rose}
use Rattle.m3_ports.specs.Files.{IsFront, LeavesAtFault}
use Rattle.m3c_streams.specs.Gathering.{Gathering, Takes, Fails, taken_of, waiting_of}

same_told : (a b : Option (List ℕ)) (w v : List ℕ) → is_some (option_map (λ (x : List ℕ). x ++ w) a) ≡ is_some (option_map (λ (x : List ℕ). x ++ v) b) → is_some a ≡ is_some b
same_told None None w v h = refl
same_told None (Some b) w v h = h
same_told (Some a) None w v h = h
same_told (Some a) (Some b) w v h = refl

-- the converse
pub is_told : (a b : Option (List ℕ)) (w v : List ℕ) → is_some a ≡ is_some b → is_some (option_map (λ (x : List ℕ). x ++ w) a) ≡ is_some (option_map (λ (x : List ℕ). x ++ v) b)
is_told None None w v h = refl
is_told None (Some b) w v h = h
is_told (Some a) None w v h = h
is_told (Some a) (Some b) w v h = refl

-- what waited went on
all_went : (a b : Option (List ℕ)) (w : List ℕ) → IfSome a (λ bytes. b ≡ Some (bytes ++ w)) → IfSome (option_map (λ (x : List ℕ). x ++ w) a) (λ bytes. option_map (λ (x : List ℕ). x ++ []) b ≡ Some (bytes ++ []))
all_went None b w h = tt
all_went (Some a) b w h = ap (option_map (λ (x : List ℕ). x ++ [])) h

pub flushed : (g h : Gathering) → h.waiting ≡ [] → h.faults ≡ g.faults → is_some h.told ≡ is_some g.told → IfSome g.told (λ bytes. h.told ≡ Some (bytes ++ g.waiting)) → h.behind ≤ g.behind + length g.waiting → Takes g h []
flushed g h e f t a b = record {
  faults = f;
  told = t;
  all = subst (λ (w : List ℕ). IfSome (taken_of g) (λ bytes. option_map (λ (x : List ℕ). x ++ w) h.told ≡ Some (bytes ++ []))) (sym e) (all_went g.told h.told g.waiting a);
  waits = subst (λ (w : List ℕ). h.behind + length w ≤ waiting_of g + 0) (sym e) (omega (arith, b));
}

-- a front of what waited went on
front_went : (a b : Option (List ℕ)) (w p : List ℕ) (k : ℕ) → IfSome a (λ bytes. (all : List ℕ) × LeavesAtFault k bytes (w ++ p) all × (b ≡ Some all)) → IfSome (option_map (λ (x : List ℕ). x ++ w) a) (λ bytes. (all : List ℕ) × LeavesAtFault (k + length w) bytes p all × (option_map (λ (x : List ℕ). x ++ []) b ≡ Some all))
front_went None b w p k h = tt
front_went (Some a) b w p k h = (h.0, ((h.1.0.0, append_assoc a w p ∙ h.1.0.1), subst (λ (n : ℕ). n ≤ length h.0 + (k + length w)) (sym (length-append a w)) (omega (arith, h.1.1))), ap (option_map (λ (x : List ℕ). x ++ [])) h.2 ∙ ap (λ (x : List ℕ). Some x) (append-nil h.0))

pub not_flushed : (g h : Gathering) (p : List ℕ) → h.waiting ≡ [] → g.faults ≤ h.faults → Rose g.faults h.faults → is_some h.told ≡ is_some g.told → IfSome g.told (λ bytes. (all : List ℕ) × LeavesAtFault g.behind bytes (g.waiting ++ p) all × (h.told ≡ Some all)) → Fails g h p
not_flushed g h p e r f t a = record {
  risen = r;
  rose = f;
  told = t;
  front = subst (λ (w : List ℕ). IfSome (taken_of g) (λ bytes. (all : List ℕ) × LeavesAtFault (waiting_of g) bytes p all × (option_map (λ (x : List ℕ). x ++ w) h.told ≡ Some all))) (sym e) (front_went g.told h.told g.waiting p g.behind a);
  nothing = e;
}

-- ---- one after the other

all_after : (a b c : Option (List ℕ)) (p q : List ℕ) → IfSome a (λ bytes. b ≡ Some (bytes ++ p)) → IfSome b (λ bytes. c ≡ Some (bytes ++ q)) → IfSome a (λ bytes. c ≡ Some (bytes ++ (p ++ q)))
all_after None b c p q h k = tt
all_after (Some a) b c p q h k = subst (λ (o : Option (List ℕ)). IfSome o (λ bytes. c ≡ Some (bytes ++ q))) h k ∙ ap (λ (x : List ℕ). Some x) (append_assoc a p q)

pub takes_after : (g h i : Gathering) (p q : List ℕ) → Takes g h p → Takes h i q → Takes g i (p ++ q)
takes_after g h i p q x y = record {
  faults = y.faults ∙ x.faults;
  told = y.told ∙ x.told;
  all = all_after (taken_of g) (taken_of h) (taken_of i) p q x.all y.all;
  waits = subst (λ (n : ℕ). waiting_of i ≤ waiting_of g + n) (sym (length-append p q)) (omega (arith, x.waits, y.waits));
}

front_after : (a b c : Option (List ℕ)) (p q : List ℕ) (m n : ℕ) → n ≤ m + length p → IfSome a (λ bytes. b ≡ Some (bytes ++ p)) → IfSome b (λ bytes. (all : List ℕ) × LeavesAtFault n bytes q all × (c ≡ Some all)) → IfSome a (λ bytes. (all : List ℕ) × LeavesAtFault m bytes (p ++ q) all × (c ≡ Some all))
front_after None b c p q m n l h k = tt
front_after (Some a) b c p q m n l h k =
    let f = subst (λ (o : Option (List ℕ)). IfSome o (λ bytes. (all : List ℕ) × LeavesAtFault n bytes q all × (c ≡ Some all))) h k in
    let s = subst (λ (d : ℕ). d ≤ length f.0 + n) (length-append a p) f.1.1 in
    (f.0, ((f.1.0.0, sym (append_assoc a p q) ∙ f.1.0.1), omega (arith, s, l)), f.2)

pub fails_after : (g h i : Gathering) (p q : List ℕ) → Takes g h p → Fails h i q → Fails g i (p ++ q)
fails_after g h i p q x y = record {
  risen = subst (λ (n : ℕ). n ≤ i.faults) x.faults y.risen;
  rose = subst (λ (n : ℕ). Rose n i.faults) x.faults y.rose;
  told = y.told ∙ x.told;
  front = front_after (taken_of g) (taken_of h) (taken_of i) p q (waiting_of g) (waiting_of h) x.waits x.all y.front;
  nothing = y.nothing;
}

-- a piece that waits behind the others
all_wait : (a : Option (List ℕ)) (w p : List ℕ) → IfSome (option_map (λ (x : List ℕ). x ++ w) a) (λ bytes. option_map (λ (x : List ℕ). x ++ (w ++ p)) a ≡ Some (bytes ++ p))
all_wait None w p = tt
all_wait (Some a) w p = ap (λ (x : List ℕ). Some x) (sym (append_assoc a w p))

pub waits_behind : (g h : Gathering) (p : List ℕ) → h ≡ record g { waiting = g.waiting ++ p } → Takes g h p
waits_behind g h p e = subst (λ (i : Gathering). Takes g i p) (sym e) (record {
  faults = refl;
  told = refl;
  all = all_wait g.told g.waiting p;
  waits = subst (λ (n : ℕ). g.behind + n ≤ waiting_of g + length p) (sym (length-append g.waiting p)) (omega arith);
})

-- a piece was put where nothing waited
no_more : (a b : Option (List ℕ)) (w p : List ℕ) (k : ℕ) → w ≡ [] → IfSome a (λ bytes. (all : List ℕ) × LeavesAtFault k bytes p all × (b ≡ Some all)) → IfSome a (λ bytes. (all : List ℕ) × LeavesAtFault k bytes (w ++ p) all × (b ≡ Some all))
no_more a b w p k e h = subst (λ (v : List ℕ). IfSome a (λ bytes. (all : List ℕ) × LeavesAtFault k bytes (v ++ p) all × (b ≡ Some all))) (sym e) h

pub put_fails : (g h : Gathering) (p : List ℕ) → g.waiting ≡ [] → h.waiting ≡ [] → g.faults ≤ h.faults → Rose g.faults h.faults → is_some h.told ≡ is_some g.told → IfSome g.told (λ bytes. (all : List ℕ) × LeavesAtFault g.behind bytes p all × (h.told ≡ Some all)) → Fails g h p
put_fails g h p d e r f t a = not_flushed g h p e r f t (no_more g.told h.told g.waiting p g.behind d a)

-- what waited was given on, and failed
pub flush_fails : (g h : Gathering) → h.waiting ≡ [] → g.faults ≤ h.faults → Rose g.faults h.faults → is_some h.told ≡ is_some g.told → IfSome g.told (λ bytes. (all : List ℕ) × LeavesAtFault g.behind bytes g.waiting all × (h.told ≡ Some all)) → Fails g h []
flush_fails g h e r f t a =
    not_flushed g h [] e r f t (subst (λ (w : List ℕ). IfSome g.told (λ bytes. (all : List ℕ) × LeavesAtFault g.behind bytes w all × (h.told ≡ Some all))) (sym (append-nil g.waiting)) a)

-- a fault before a piece is one at it
front_longer : (a c : Option (List ℕ)) (p q : List ℕ) (m : ℕ) → IfSome a (λ bytes. (all : List ℕ) × LeavesAtFault m bytes p all × (c ≡ Some all)) → IfSome a (λ bytes. (all : List ℕ) × LeavesAtFault m bytes (p ++ q) all × (c ≡ Some all))
front_longer None c p q m h = tt
front_longer (Some a) c p q m h =
    (h.0, ((h.1.0.0 ++ q, sym (append_assoc a p q) ∙ ap (λ (x : List ℕ). x ++ q) h.1.0.1 ∙ append_assoc h.0 h.1.0.0 q), h.1.1), h.2)

pub fails_before : (g h : Gathering) (p q : List ℕ) → Fails g h p → Fails g h (p ++ q)
fails_before g h p q x = record {
  risen = x.risen;
  rose = x.rose;
  told = x.told;
  front = front_longer (taken_of g) (taken_of h) p q (waiting_of g) x.front;
  nothing = x.nothing;
}

-- a flush behind a piece failed
pub flush_fails_after : (g h i : Gathering) (p : List ℕ) → Takes g h p → Fails h i [] → Fails g i p
flush_fails_after g h i p x y = subst (λ (q : List ℕ). Fails g i q) (append-nil p) (fails_after g h i p [] x y)

pub at_any : {T E : Type 0} (P : Type 0) (r : Result T E) → P → OnErr r P
at_any P (Ok _) p = tt
at_any P (Err _) p = p

-- what a fault says to whoever put the piece
pub told_of_fault : (g h : Gathering) (p : List ℕ) → Fails g h p → Rose g.faults h.faults × IfSome (taken_of g) (λ bytes. (all : List ℕ) × LeavesAtFault (waiting_of g) bytes p all × (taken_of h ≡ Some all))
told_of_fault g h p x = (x.rose, x.front)
