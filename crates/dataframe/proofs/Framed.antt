-- Data Frames: lengths, fields, and what the code builds.
-- Assumes nothing.
use mathlib.Core.Path.{◌≡◌, refl, sym, ap, ap₂, ◌∙◌}
use mathlib.Core.List.{List, [], ◌∷◌, ◌++◌, append_assoc}
use Prim.Native.Nat.{ℕ, ◌+◌, ◌/◌, ◌%◌, ◌<◌}
use native.Mathlib.Omega.{arith}
use lib.ListN.{length, get_or, take, drop, length-append, get_or-append}
use lib.Seq.{take_all, take_at, drop_at, get_or-take, get_or-drop, sets, length-sets}
use Rattle.lists.specs.Bytes.{Bytes}
use Rattle.lists.proofs.Bytes.{append-bytes, zeros-bytes}
use Rattle.octets.proofs.Copies.{take-sets}
use Rattle.layout.specs.Lengths.{head_size, frame_main_size, edc_place, frame_size}
use Rattle.codes.specs.Parity.{parity}
use Rattle.codes.proofs.Division.{two_roots, parity-length, parity-bytes}
use Rattle.edc.specs.Edc.{edc_of}
use Rattle.edc.proofs.Steps.{edc_length, edc_bytes}
use Rattle.dataframe.specs.Frame.{id_of, ied_of, cpr_mai, head_of, data_frame}

-- ---- ID, IED and CPR_MAI

pub id_length : (info n : ℕ) → length (id_of info n) ≡ 4
unfolding id_of
id_length info n = refl

pub ied_length : (id : List ℕ) → length (ied_of id) ≡ 2
ied_length id = parity-length 2 two_roots id

pub head_length : (info n : ℕ) → length (head_of info n) ≡ head_size
unfolding head_of
head_length info n =
    length-append (id_of info n) (ied_of (id_of info n) ++ cpr_mai)
    ∙ ap₂ (λ (x y : ℕ). x + y) (id_length info n) (length-append (ied_of (id_of info n)) cpr_mai ∙ ap (λ (x : ℕ). x + 6) (ied_length (id_of info n)))

pub head_bytes : (info n : ℕ) → info < 256 → Bytes (head_of info n)
unfolding head_of id_of Bytes
head_bytes info n h =
    append-bytes (id_of info n) (ied_of (id_of info n) ++ cpr_mai) (h, (omega arith, (omega arith, (omega arith, tt))))
    (append-bytes (ied_of (id_of info n)) cpr_mai (parity-bytes 2 two_roots (id_of info n)) (zeros-bytes 6))

pair : (e : List ℕ) → length e ≡ 2 → e ≡ get_or e 0 0 ∷ get_or e 1 0 ∷ []
pair [] l = absurd (omega arith)
pair (a ∷ []) l = absurd (omega arith)
pair (a ∷ b ∷ []) l = refl
pair (a ∷ b ∷ c ∷ e) l = absurd (omega arith)

-- what `head` returns
pub head_built :
    (info n : ℕ) (b e : List ℕ) → b ≡ n / 16777216 % 256 ∷ n / 65536 % 256 ∷ n / 256 % 256 ∷ n % 256 ∷ []
    → e ≡ parity 2 (info ∷ get_or b 1 0 ∷ get_or b 2 0 ∷ get_or b 3 0 ∷ [])
    → info ∷ get_or b 1 0 ∷ get_or b 2 0 ∷ get_or b 3 0 ∷ get_or e 0 0 ∷ get_or e 1 0 ∷ 0 ∷ 0 ∷ 0 ∷ 0 ∷ 0 ∷ 0 ∷ [] ≡ head_of info n
unfolding head_of id_of
head_built info n b e p q =
    let id : info ∷ get_or b 1 0 ∷ get_or b 2 0 ∷ get_or b 3 0 ∷ [] ≡ id_of info n =
    ap (λ (xs : List ℕ). info ∷ get_or xs 1 0 ∷ get_or xs 2 0 ∷ get_or xs 3 0 ∷ []) p in
    let ied : get_or e 0 0 ∷ get_or e 1 0 ∷ [] ≡ ied_of (id_of info n) =
    sym (pair e (ap length q ∙ ied_length (info ∷ get_or b 1 0 ∷ get_or b 2 0 ∷ get_or b 3 0 ∷ []))) ∙ q ∙ ap (parity 2) id in
    ap₂ (λ (x y : List ℕ). x ++ (y ++ cpr_mai)) id ied

-- ---- the frame over 2,048 main data bytes d

module _ (d : List ℕ) (info n : ℕ) (len : length d ≡ frame_main_size) where
  front_length : length (head_of info n ++ d) ≡ edc_place
  front_length = length-append (head_of info n) d ∙ ap₂ (λ (x y : ℕ). x + y) (head_length info n) len

  pub data_length : length (data_frame d info n) ≡ frame_size
  unfolding data_frame
  data_length =
      length-append (head_of info n ++ d) (edc_of (head_of info n ++ d)) ∙ ap₂ (λ (x y : ℕ). x + y) front_length (edc_length (head_of info n ++ d))

  pub data_bytes : Bytes d → info < 256 → Bytes (data_frame d info n)
  unfolding data_frame
  data_bytes hd hi =
      append-bytes (head_of info n ++ d) (edc_of (head_of info n ++ d)) (append-bytes (head_of info n) d (head_bytes info n hi) hd)
      (edc_bytes (head_of info n ++ d))

  pub data_head : (i : ℕ) → i < head_size → get_or (data_frame d info n) i 0 ≡ get_or (head_of info n) i 0
  unfolding data_frame
  data_head i h =
      get_or-append (head_of info n ++ d) (edc_of (head_of info n ++ d)) 0 i (omega (arith, front_length))
      ∙ get_or-append (head_of info n) d 0 i (omega (arith, head_length info n))

  -- its fields: the bytes before EDC, EDC, and the main data
  pub data_front : take edc_place (data_frame d info n) ≡ head_of info n ++ d
  unfolding data_frame
  data_front = take_at (head_of info n ++ d) (edc_of (head_of info n ++ d)) edc_place front_length

  pub data_edc : drop edc_place (data_frame d info n) ≡ edc_of (head_of info n ++ d)
  unfolding data_frame
  data_edc = drop_at (head_of info n ++ d) (edc_of (head_of info n ++ d)) edc_place front_length

  pub data_main : take frame_main_size (drop head_size (data_frame d info n)) ≡ d
  unfolding data_frame
  data_main =
      ap (λ (x : List ℕ). take frame_main_size (drop head_size x)) (append_assoc (head_of info n) d (edc_of (head_of info n ++ d)))
      ∙ ap (take frame_main_size) (drop_at (head_of info n) (d ++ edc_of (head_of info n ++ d)) head_size (head_length info n))
      ∙ take_at d (edc_of (head_of info n ++ d)) frame_main_size len

  pub data_at : (r : ℕ) → r < frame_main_size → get_or (data_frame d info n) (head_size + r) 0 ≡ get_or d r 0
  data_at r h =
      sym (get_or-drop head_size (data_frame d info n) r 0) ∙ sym (get_or-take frame_main_size (drop head_size (data_frame d info n)) r 0 h)
      ∙ ap (λ (x : List ℕ). get_or x r 0) data_main

  -- what `data_frame` builds: the head, the main data and EDC put into a frame one after the other
  pub data_built :
      (z h e f g r : List ℕ) → length z ≡ frame_size → h ≡ head_of info n → f ≡ sets z 0 h → g ≡ sets f head_size d → e ≡ edc_of (take edc_place g)
      → r ≡ sets g edc_place e → r ≡ data_frame d info n
  unfolding data_frame
  data_built z h e f g r lz ph pf pg pe pr =
      let lh : length h ≡ head_size = ap length ph ∙ head_length info n in
      let le : length e ≡ 4 = ap length pe ∙ edc_length (take edc_place g) in
      let lf : length f ≡ frame_size = ap length pf ∙ length-sets z 0 h ∙ lz in
      let lg : length g ≡ frame_size = ap length pg ∙ length-sets f head_size d ∙ lf in
      let lr : length r ≡ frame_size = ap length pr ∙ length-sets g edc_place e ∙ lg in
      let n₁ : head_size ≡ 0 + length h = omega arith in
      let n₂ : edc_place ≡ head_size + length d = omega (arith, len) in
      let n₃ : frame_size ≡ edc_place + length e = omega arith in
      let tf : take head_size f ≡ head_of info n = ap₂ take n₁ pf ∙ take-sets h z 0 (omega arith) ∙ ph in
      let tg : take edc_place g ≡ head_of info n ++ d =
      ap₂ take n₂ pg ∙ take-sets d f head_size (omega (arith, len)) ∙ ap (λ (x : List ℕ). x ++ d) tf in
      sym (take_all frame_size r (omega arith)) ∙ ap₂ take n₃ pr ∙ take-sets e g edc_place (omega arith)
      ∙ ap₂ (λ (x y : List ℕ). x ++ y) tg (pe ∙ ap edc_of tg)
