-- An operation that isn't plain has no effect of its own.
use Rattle.std.proofs.Common.{◌≡◌, ℕ, ℤ, Bool, false, ◌⊎◌, inl, inr, refl, ap}
use Rattle.std.proofs.lemmas.Bool.{true≢false}
use Rattle.m3_isa.specs.declared.instructions.Op.{Op}
use Rattle.m3_isa.specs.declared.instructions.Op.TheVariants.{Move, Li, Lih, Con, Glb, Slot, Lds, Sts, Ld, St, Copy, Fill, Eqw, Add, Sub, Mul, Addi, Addo, Subo, Mulo, Divf, Modf, Divu, Modu, And, Or, Xor, Shf, Rot, Seq, Slt, Sltu, Jmp, Bz, Bnz, Blt, Bltu, Beq, Call, Callr, Callm, Ret, Meth, Subt, New, Newo, Point, Fault, Unc, Endp, Endt, Cat, Tchr, Tsub, Tget, Teq, Fork, Join, Acq, Rel, Wait, Sig, Bca, Self_, Put, Putn, Putc, Alert, Talert, Await, Ajoin, Getc, Eof}
use Rattle.m3_isa.specs.declared.registers.Regs.{Regs}
use Rattle.m3_isa.specs.Memory.{Memory}
use Rattle.m3_isa.specs.Instructions.{is_plain}
use Rattle.m3_isa.specs.Effects.{NotPlain, effect_of}

pub not_plain : (op : Op) → is_plain op ≡ false → (a b c : ℕ) (imm : ℤ) (regs : Regs) (m : Memory) (can : ℕ → Bool) → effect_of op a b c imm regs m can ≡ NotPlain
not_plain Move h = absurd (true≢false h)
not_plain Li h = absurd (true≢false h)
not_plain Lih h = absurd (true≢false h)
not_plain Con h = absurd (true≢false h)
not_plain Glb h = absurd (true≢false h)
not_plain Slot h = absurd (true≢false h)
not_plain Lds h = absurd (true≢false h)
not_plain Sts h = absurd (true≢false h)
not_plain Ld h = absurd (true≢false h)
not_plain St h = absurd (true≢false h)
not_plain Copy h = absurd (true≢false h)
not_plain Fill h = absurd (true≢false h)
not_plain Eqw h = absurd (true≢false h)
not_plain Add h = absurd (true≢false h)
not_plain Sub h = absurd (true≢false h)
not_plain Mul h = absurd (true≢false h)
not_plain Addi h = absurd (true≢false h)
not_plain Addo h = absurd (true≢false h)
not_plain Subo h = absurd (true≢false h)
not_plain Mulo h = absurd (true≢false h)
not_plain Divf h = absurd (true≢false h)
not_plain Modf h = absurd (true≢false h)
not_plain Divu h = absurd (true≢false h)
not_plain Modu h = absurd (true≢false h)
not_plain And h = absurd (true≢false h)
not_plain Or h = absurd (true≢false h)
not_plain Xor h = absurd (true≢false h)
not_plain Shf h = absurd (true≢false h)
not_plain Rot h = absurd (true≢false h)
not_plain Seq h = absurd (true≢false h)
not_plain Slt h = absurd (true≢false h)
not_plain Sltu h = absurd (true≢false h)
not_plain Jmp h = absurd (true≢false h)
not_plain Bz h = absurd (true≢false h)
not_plain Bnz h = absurd (true≢false h)
not_plain Blt h = absurd (true≢false h)
not_plain Bltu h = absurd (true≢false h)
not_plain Beq h = absurd (true≢false h)
not_plain Tget h = absurd (true≢false h)
not_plain Teq h = absurd (true≢false h)
not_plain _ h = λ a b c imm regs m can. refl

-- one of the operations that aren't plain
abbrev pub IsOther : Op → Type 0
IsOther op = (op ≡ Call) ⊎ ((op ≡ Callr) ⊎ ((op ≡ Callm) ⊎ ((op ≡ Ret) ⊎ ((op ≡ Meth) ⊎ ((op ≡ Subt) ⊎ ((op ≡ New) ⊎ ((op ≡ Newo) ⊎ ((op ≡ Point) ⊎ ((op ≡ Fault) ⊎ ((op ≡ Unc) ⊎ ((op ≡ Endp) ⊎ ((op ≡ Endt) ⊎ ((op ≡ Cat) ⊎ ((op ≡ Tchr) ⊎ ((op ≡ Tsub) ⊎ ((op ≡ Fork) ⊎ ((op ≡ Join) ⊎ ((op ≡ Acq) ⊎ ((op ≡ Rel) ⊎ ((op ≡ Wait) ⊎ ((op ≡ Sig) ⊎ ((op ≡ Bca) ⊎ ((op ≡ Self_) ⊎ ((op ≡ Put) ⊎ ((op ≡ Putn) ⊎ ((op ≡ Putc) ⊎ ((op ≡ Alert) ⊎ ((op ≡ Talert) ⊎ ((op ≡ Await) ⊎ ((op ≡ Ajoin) ⊎ ((op ≡ Getc) ⊎ (op ≡ Eof))))))))))))))))))))))))))))))))

other : {P Q : Type 0} {b : Bool} → (P → b ≡ false) → (Q → b ≡ false) → P ⊎ Q → b ≡ false
other f g (inl p) = f p
other f g (inr q) = g q

pub other_is_not_plain : (op : Op) → IsOther op → is_plain op ≡ false
other_is_not_plain op =
    other (ap is_plain) (other (ap is_plain) (other (ap is_plain) (other (ap is_plain) (other (ap is_plain) (other (ap is_plain) (other (ap is_plain) (other (ap is_plain) (other (ap is_plain) (other (ap is_plain) (other (ap is_plain) (other (ap is_plain) (other (ap is_plain) (other (ap is_plain) (other (ap is_plain) (other (ap is_plain) (other (ap is_plain) (other (ap is_plain) (other (ap is_plain) (other (ap is_plain) (other (ap is_plain) (other (ap is_plain) (other (ap is_plain) (other (ap is_plain) (other (ap is_plain) (other (ap is_plain) (other (ap is_plain) (other (ap is_plain) (other (ap is_plain) (other (ap is_plain) (other (ap is_plain) (other (ap is_plain) (ap is_plain))))))))))))))))))))))))))))))))
