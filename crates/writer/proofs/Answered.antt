-- What a call's answer tells of its number, and of the record then.
-- Assumes nothing.
use mathlib.Core.Path.{◌≡◌, refl, ap, subst}
use mathlib.Core.Bool.{Bool, not}
use native.Mathlib.Omega.{arith}
use lib.Dec.{T}
use Rattle.std.specs.Prelude.{Result, Ok, Err}
use Rattle.std.specs.Result.{IsErr, IsErrAnd, result_unwrap_or}
use Rattle.refusals.specs.Refusal.{answer_number, refusal_number}
use Rattle.refusals.specs.declared.Refusal.{Refusal}
use Rattle.refusals.specs.declared.Refusal.TheVariants.{Length, FirstNumber, Information, Ied, Id, Edc, RunEnded, RunUnfinished, BadRecord, Sequence, Mark, NotTried, OtherDsv, Stretches}
use Rattle.writer.specs.Records.{record_after}
use Rattle.writer.specs.declared.Record.{Record}

-- a refusal has a number
pub refused : (e : Refusal) → refusal_number e ≡ 0 → ⊥
refused Length z = omega arith
refused FirstNumber z = omega arith
refused Information z = omega arith
refused Ied z = omega arith
refused Id z = omega arith
refused Edc z = omega arith
refused RunEnded z = omega arith
refused RunUnfinished z = omega arith
refused BadRecord z = omega arith
refused Sequence z = omega arith
refused Mark z = omega arith
refused NotTried z = omega arith
refused OtherDsv z = omega arith
refused Stretches z = omega arith

-- and leaves the old record
pub kept : (w : Record) (r : Result Record Refusal) → IsErr r → record_after w r ≡ w
kept w (Ok next) e = absurd (subst (λ (b : Bool). T (not b)) e tt)
kept w (Err refusal) e = refl

pub unwrapped : (w : Record) (r : Result Record Refusal) → result_unwrap_or r w ≡ record_after w r
unwrapped w (Ok next) = refl
unwrapped w (Err refusal) = refl

-- what a `?` passes on has the number of the refusal that it met
pub numbered : {T : Type 0} (r : Result T Refusal) (e : Refusal) → IsErrAnd r (λ y. y ≡ e) → answer_number r ≡ refusal_number e
numbered (Ok next) e h = absurd h
numbered (Err refusal) e h = ap refusal_number h
