-- `Multiples::<16>::new` makes the table of its type, by computation. Assumes nothing.
use mathlib.Core.Path.{refl}
use native.Mathlib.Omega.{arith}
use Rattle.lists.specs.Fill.{tabulate_from}
use Rattle.field.specs.Field.{add, double, mul_bits, mul, square, pow_halves, pow}
use Rattle.codes.specs.Parity.{add_words, times_root, generator}
use Rattle.multiples.specs.Inner.{bytes_as_number, high, low, half, multiples}
use Rattle.multiples.proofs.Multiples+16.new.Goals as goal

pub invariant_of-result : goal.invariant_of-result
unfolding tabulate_from add double mul_bits mul square pow_halves pow add_words times_root generator bytes_as_number high low half multiples
invariant_of-result c = record { sound = refl; fits = omega arith }
