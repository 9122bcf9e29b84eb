-- A Code Word and a SYNC Code in the buffer of one stream.
-- Assumes nothing.
use mathlib.Core.Path.{◌≡◌, refl, ap, ◌∙◌}
use mathlib.Core.Bool.{Bool}
use mathlib.Core.List.{List, [], ◌∷◌, ◌++◌}
use Prim.Native.Nat.{ℕ, ◌+◌, ◌<◌, ◌≤◌}
use native.Mathlib.Omega.{arith}
use lib.ListN.{length, take}
use Rattle.annexg.specs.Sync.{sync_end, code_for}
use Rattle.octets.specs.Halves.{packed, put_half}
use Rattle.channel.specs.Channel.{sync, byte, last_for}
use Rattle.laying.specs.Inner.{side_after}
use Rattle.laying.specs.declared.Side.{Side}
use Rattle.levels.specs.declared.Running.{Running}
use Rattle.streams.specs.Streams.{Stream, fresh, lay}
use Rattle.frames.specs.Inner.{Part}
use Rattle.frames.proofs.Copies.{put_laid, put_before, put_length}

-- byte b was laid by the choice c at the end d of a stream: its buffer x became y, and its end q
pub record Worded (d : Side) (b : ℕ) (c : Bool) (at : ℕ) (x y : List ℕ) (q : Side) : Type 0 where
  pub grown : (m : Stream) → Part d x at m → Part q y (at + 2) (lay m (byte b) c)
  pub before : take at y ≡ take at x

pub worded :
    {d : Side} {b : ℕ} {c : Bool} {at : ℕ} {x y : List ℕ} {q : Side} → at + 1 < length x
    → (q ≡ side_after d.running (byte b) c) × (y ≡ put_half x at (last_for d.running.state (byte b) c))
    → Worded d b c at x y q
unfolding lay
worded {d} {b} {c} {at} {x} {y} {q} h l =
    let w = last_for d.running.state (byte b) c in
    record {
      grown = λ m p.
          let end = l.0 ∙ ap (λ (z : Running). side_after z (byte b) c) p.running in
          record {
            running = ap (λ (z : Side). z.running) end;
            last = ap (λ (z : Side). z.tail) end;
            bytes =
                ap (take (at + 2)) l.1
                ∙ put_laid x at w m.halves h p.bytes
                ∙ ap (λ (z : Running). packed (m.halves ++ (last_for z.state (byte b) c ∷ []))) p.running;
          };
      before = ap (take at) l.1 ∙ put_before x at w;
    }

-- SYn was laid by the choice c at the front of the buffer x, which became y
pub synced :
    (r : Running) (n : ℕ) (c : Bool) (x : List ℕ) {q : Side} {y : List ℕ} → 4 ≤ length x
    → (q ≡ side_after r (sync n) c) × (y ≡ put_half (put_half x 0 (code_for r.state n c)) 2 sync_end)
    → Part q y 4 (lay (fresh r) (sync n) c)
unfolding lay packed
synced r n c x k l =
    let h = code_for r.state n c in
    let x₁ = put_half x 0 h in
    let long : length x₁ ≡ length x = put_length x 0 h in
    let first : take 2 x₁ ≡ packed (h ∷ []) = put_laid x 0 h [] (omega arith) refl in
    record {
      running = ap (λ (z : Side). z.running) l.0;
      last = ap (λ (z : Side). z.tail) l.0;
      bytes = ap (take 4) l.1 ∙ put_laid x₁ 2 sync_end (h ∷ []) (omega arith) first;
    }
