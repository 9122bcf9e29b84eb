-- HOW FAR ONE BYTE REACHES (document 02, request 11): two figures of the lecture on parity, of the 37,856 bytes of the maker's blocks.
--   one_byte  Two blocks with equal first number and Sector Information whose main data differ in exactly one byte differ in at most 265 bytes.
--   apart     Any two accepted inputs that differ in main data, first number or Sector Information give blocks that differ in at least 187 bytes.
-- Both are reached: tests/src/reach_test.rs. What follows for the reader, that nine heavy rows may be one too many, is theorems/proofs/NineRows.
--
-- The definitions it is stated over, and the function whose contract cites them:
--   distance                  lists/specs/Count          in how many places two lists differ
--   Accepted, block           eccblock/specs/Encode,     eccblock::encode_block
--                             Block
--   BlockInput, made_block     eccblock/specs/Run         main data, first number, Sector Information, and the block of these three
-- Assumes nothing.
use mathlib.Core.Path.{◌≡◌}
use mathlib.Core.List.{List}
use mathlib.Core.Logic.{◌≢◌}
use Prim.Native.Nat.{ℕ, ◌≤◌}
use Rattle.lists.specs.Count.{distance}
use Rattle.eccblock.specs.Block.{block}
use Rattle.eccblock.specs.Encode.{Accepted}
use Rattle.eccblock.specs.Run.{BlockInput, made_block}
use Rattle.std.specs.Prelude.{Option}
use Rattle.reach.proofs.Apart.{blocks_apart}
use Rattle.reach.proofs.OneByte.{one-byte_reaches}

pub record Reach : Type 0 where
  -- whatever block came before each of the two
  pub one_byte : {previous before : Option ℕ} (main other : List ℕ) (first info : ℕ) → Accepted previous main first info → Accepted before other first info
      → distance main other ≡ 1 → distance (block main first info) (block other first info) ≤ 265
  pub apart : {previous before : Option ℕ} (a b : BlockInput) → Accepted previous a.main a.first a.info → Accepted before b.main b.first b.info
      → a ≢ b → 187 ≤ distance (made_block a) (made_block b)

pub reach : Reach
reach = record {
  one_byte = λ main other first info ok also one. one-byte_reaches main other first info ok also one;
  apart = λ a b ok also n. blocks_apart a b ok also n;
}
