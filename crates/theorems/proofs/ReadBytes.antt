-- What is read is a byte.
-- Assumes nothing.
use mathlib.Core.Path.{◌≡◌, refl, sym, ap, subst, ◌∙◌}
use mathlib.Core.List.{List}
use Prim.Native.Nat.{ℕ, zero, suc, ◌+◌, ◌<◌, ◌≤◌}
use Rattle.std.specs.Prelude.{Option, Some, None}
use native.Mathlib.Nat.{not-suc-le-zero, le_of_suc-le-suc}
use native.Mathlib.Omega.{arith}
use lib.ListN.{length}
use Rattle.lists.specs.Bytes.{Bytes}
use Rattle.lists.proofs.Bytes.{tabulate-bytes}
use Rattle.lists.proofs.Fill.{length-tabulate}
use Rattle.annexg.specs.Read.{table_of, read_word}
use Rattle.annexg.proofs.Search.{length_main, length-sub}
use Rattle.annexg.proofs.Stands.{read_stands}
use Rattle.channel.specs.Block.{reading_byte, read_at, read_block}
use Rattle.layout.specs.Sectors.{half_of}
use Rattle.octets.specs.Halves.{half_at}
use Rattle.channel.proofs.Sectors.{read_block_lem}
use Rattle.layout.specs.Lengths.{block_size}

table_long : (t : ℕ) → t < 2 → length (table_of t) ≤ 1024
table_long zero h = omega (arith, length_main)
table_long (suc zero) h = omega (arith, length-sub)
table_long (suc (suc t)) h = absurd (not-suc-le-zero (le_of_suc-le-suc (le_of_suc-le-suc h)))

word_byte_lem : (w f : ℕ) → reading_byte (read_word w f) < 256
word_byte_lem w f = go (read_word w f) refl
  where
    go : (r : Option ℕ) → read_word w f ≡ r → reading_byte r < 256
    go (Some b) e = let s = read_stands w f b e in omega (arith, s.row_small, table_long s.table_no_lem s.table_small)
    go None e = omega arith

read_byte : (xs : List ℕ) (i : ℕ) → read_at xs i < 256
unfolding read_at
read_byte xs i = word_byte_lem (half_at xs (half_of i)) (half_at xs (half_of i + 1))

pub read_block_length : (xs : List ℕ) → length (read_block xs) ≡ block_size
read_block_length xs = ap length (read_block_lem xs) ∙ length-tabulate (read_at xs) block_size

pub read_block_bytes : (xs : List ℕ) → Bytes (read_block xs)
read_block_bytes xs = subst Bytes (sym (read_block_lem xs)) (tabulate-bytes (read_at xs) 0 block_size (read_byte xs))
