-- Procedures that follow one another.
use Rattle.m3_mid.specs.declared.procs.Proc.{Proc}
use Rattle.m3_mid_meaning.specs.Laws.{Composes}

pub composes : (p q r : Proc) → Composes p q r
composes p q r = record {
  itself = λ around memory answers o defined run. run;
  chained = λ first second around memory answers o defined run. second around memory answers o defined (first around memory answers o defined run);
}
