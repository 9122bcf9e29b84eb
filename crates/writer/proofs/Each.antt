-- The sectors of a block that the loop of `write_each` has written.
-- Assumes nothing.
use mathlib.Core.List.{List, ◌++◌, append_assoc, append-nil}
use mathlib.Core.Path.{◌≡◌, refl, sym, ap, ap₂, subst, ◌∙◌}
use Prim.Native.Nat.{ℕ, suc, ◌+◌, ◌*◌, ◌≤◌, ◌<◌}
use native.Mathlib.Numerals.{add-one}
use native.Mathlib.Omega.{arith}
use lib.ListN.{length, take, drop, length-append, length-drop}
use lib.Seq.{take_at, drop_at, drop-drop, drop-length, length-take-le}
use Rattle.layout.specs.Lengths.{sector_count, sector_stream, sectors_stream}
use Rattle.writer.specs.Answers.{sector_next, sector_out}
use Rattle.writer.specs.Session.{Session, writes, sector_at, sector_calls}
use Rattle.writer.specs.declared.Record.{Record}
use Rattle.writer.specs.Inner.{sector_room}

-- the calls for the first k sectors, from the record w₀
abbrev pub calls : Record → List ℕ → List ℕ → ℕ → Session
calls w₀ bs old k = sector_calls writes w₀ bs (sector_room old) k

-- after k sectors of the block bs the record is w, and the stream, which held old, holds out
pub record Written (w₀ : Record) (bs old : List ℕ) (k : ℕ) (w : Record) (out : List ℕ) : Type 0 where
  pub next : w ≡ (calls w₀ bs old k).next
  pub bytes : out ≡ (calls w₀ bs old k).bytes ++ drop (sector_stream * k) old
  pub count : length (calls w₀ bs old k).bytes ≡ sector_stream * k

pub written_none : (w₀ : Record) (bs old : List ℕ) → Written w₀ bs old 0 w₀ old
unfolding sector_calls
written_none w₀ bs old = record { next = refl; bytes = refl; count = refl }

module _
    (w₀ : Record) (bs old : List ℕ) (k : ℕ) (w : Record) (out : List ℕ) (hk : k ≤ sector_count) (lo : length old ≡ sectors_stream)
    (g : Written w₀ bs old k w out)
  where
    pub written_length : length out ≡ sectors_stream
    written_length =
        ap length g.bytes ∙ length-append (calls w₀ bs old k).bytes (drop (sector_stream * k) old)
        ∙ omega (arith, g.count, length-drop (sector_stream * k) old)

    front : take (sector_stream * k) out ≡ (calls w₀ bs old k).bytes
    front = ap (take (sector_stream * k)) g.bytes ∙ take_at (calls w₀ bs old k).bytes (drop (sector_stream * k) old) (sector_stream * k) g.count

    behind : drop (sector_stream * k) out ≡ drop (sector_stream * k) old
    behind = ap (drop (sector_stream * k)) g.bytes ∙ drop_at (calls w₀ bs old k).bytes (drop (sector_stream * k) old) (sector_stream * k) g.count

    module _
        (new b part : List ℕ) (q : Record) (n : ℕ) (h : k < sector_count) (e : n ≡ sector_stream) (eb : b ≡ sector_at bs k)
        (ep : part ≡ take n (drop (sector_stream * k) out))
      where
        room : part ≡ sector_room old k
        room = ep ∙ ap₂ (λ (m : ℕ) (xs : List ℕ). take m xs) e behind

        room-length : length part ≡ sector_stream
        room-length = ap length room ∙ length-take-le sector_stream (drop (sector_stream * k) old) (omega (arith, length-drop (sector_stream * k) old))

        pub written_more : q ≡ sector_next w b (length part) → new ≡ sector_out w b part → length new ≡ length part
            → Written w₀ bs old (k + 1) q (take (sector_stream * k) out ++ (new ++ drop n (drop (sector_stream * k) out)))
        unfolding sector_calls
        written_more en eo el =
            subst (λ (m : ℕ). Written w₀ bs old m q (take (sector_stream * k) out ++ (new ++ drop n (drop (sector_stream * k) out)))) (sym (add-one k))
            record {
              next =
                  en ∙ ap₂ (λ (v : Record) (x : List ℕ). sector_next v x (length part)) g.next eb
                  ∙ ap (λ (x : List ℕ). sector_next (calls w₀ bs old k).next (sector_at bs k) (length x)) room;
              bytes =
                  ap₂ (λ (x y : List ℕ). x ++ (new ++ y)) front tail
                  ∙ ap (λ (x : List ℕ). (calls w₀ bs old k).bytes ++ (x ++ drop (sector_stream * suc k) old)) made
                  ∙ sym (append_assoc (calls w₀ bs old k).bytes (sector_out (calls w₀ bs old k).next (sector_at bs k) (sector_room old k))
                  (drop (sector_stream * suc k) old));
              count =
                  length-append (calls w₀ bs old k).bytes (sector_out (calls w₀ bs old k).next (sector_at bs k) (sector_room old k))
                  ∙ omega (arith, g.count, sym (ap length made) ∙ el ∙ room-length);
            }
          where
            tail : drop n (drop (sector_stream * k) out) ≡ drop (sector_stream * suc k) old
            tail =
                let m : sector_stream * k + sector_stream ≡ sector_stream * suc k = omega arith in
                ap₂ (λ (m : ℕ) (xs : List ℕ). drop m xs) e behind ∙ drop-drop sector_stream (sector_stream * k) old ∙ ap (λ (x : ℕ). drop x old) m

            made : new ≡ sector_out (calls w₀ bs old k).next (sector_at bs k) (sector_room old k)
            made =
                eo ∙ ap₂ (λ (v : Record) (x : List ℕ). sector_out v x part) g.next eb
                ∙ ap (sector_out (calls w₀ bs old k).next (sector_at bs k)) room

-- after sixteen sectors nothing is left of what the stream held
pub written_all : (w₀ : Record) (bs old : List ℕ) (w : Record) (out : List ℕ) → length old ≡ sectors_stream → Written w₀ bs old sector_count w out
    → out ≡ (calls w₀ bs old sector_count).bytes
written_all w₀ bs old w out lo g =
    let bytes = (calls w₀ bs old sector_count).bytes in
    g.bytes
    ∙ ap (λ (n : ℕ). bytes ++ drop n old) (sym lo)
    ∙ ap (λ (xs : List ℕ). bytes ++ xs) (drop-length old)
    ∙ append-nil bytes
