-- Wrong bytes that explain the sums of a word, and the code word near it: without them the word is the code word (explained_repaired), and where no t wrong bytes
-- explain the sums there is none within t (unexplained_heavier). Over length, number of roots and number of wrong bytes.
-- Assumes nothing.
use mathlib.Core.Path.{◌≡◌, refl, sym, ap, ap₂, subst, ◌∙◌}
use mathlib.Core.Bool.{not}
use mathlib.Core.List.{List, [], ◌∷◌}
use mathlib.Core.Logic.{dite}
use Prim.Native.Nat.{ℕ, zero, suc, ◌+◌, ◌-◌, ◌<◌, ◌≤◌}
use native.Mathlib.Decide.{ℕ_discrete}
use native.Mathlib.Omega.{arith}
use borrow.Author.Tests.{eq-eqb}
use lib.Dec.{eqb}
use lib.ListN.{length, get_or}
use Rattle.lists.specs.Bytes.{Bytes}
use Rattle.lists.specs.Count.{distance}
use Rattle.lists.proofs.Bytes.{get_or-byte, set-bytes}
use Rattle.lists.proofs.Count.{bit_le}
use Rattle.lists.proofs.Distance.{distance_self}
use Rattle.field.specs.Field.{add, mul, pow}
use Rattle.field.proofs.Field.{add_assoc, add_comm, add_left_comm, add_self, add-zero, zero-add, add-lt, add-mul, zero-mul}
use Rattle.codes.specs.Word.{syndrome}
use Rattle.codes.specs.Parity.{add_words}
use Rattle.codes.specs.Inner.{change, sum_of, Inside, Explains, InOrder, Unexplained, without_wrong}
use Rattle.codes.specs.declared.WrongByte.{WrongByte}
use Rattle.codes.specs.declared.LightOutcome.TheVariants.{Repaired, Heavier}
use Rattle.codes.proofs.Words.{weight, syndrome-cons, syndrome-nil, syndrome-add, add_words-length, add_words-bytes}
use Rattle.codes.proofs.Nearest.{Near, distance_weight, distance_triangle, nearest_near}
use Rattle.codes.proofs.Mended.{change_first, change_rest, change-length}
use Rattle.codes.proofs.Light.{LightRepaired, near_repaired, none-heavier}

-- ---- one byte changed

change-bytes : (w : List ℕ) (k v : ℕ) → Bytes w → v < 256 → Bytes (change w k v)
unfolding change
change-bytes w k v h l =
    let i : ℕ = length w - suc k in
    set-bytes w i (add (get_or w i 0) v) h (add-lt (get_or-byte w i h) l)

-- the sums grow by those of the wrong byte
change-syndrome : (w : List ℕ) (k v : ℕ) → Bytes w → v < 256 → k < length w → (i : ℕ) → syndrome (change w k v) i ≡ add (mul v (pow (pow 2 k) i)) (syndrome w i)
unfolding Bytes
change-syndrome [] k v h hv l i = absurd (omega arith)
change-syndrome (a ∷ r) k v h hv l i = dite (ℕ_discrete k (length r))
    (λ e.
    let x : ℕ = pow (pow 2 (length r)) i in
    ap (λ (u : List ℕ). syndrome u i) (change_first a r k v e) ∙ syndrome-cons (add a v) r (add-lt h.0 hv, h.1) i
    ∙ ap (λ (u : ℕ). add u (syndrome r i)) (add-mul a v x ∙ add_comm (mul a x) (mul v x)) ∙ add_assoc (mul v x) (mul a x) (syndrome r i)
    ∙ sym (ap₂ (λ (j u : ℕ). add (mul v (pow (pow 2 j) i)) u) e (syndrome-cons a r h i)))
    (λ ne.
    let m : k < length r = omega (arith, ne) in
    let x : ℕ = mul v (pow (pow 2 k) i) in
    let y : ℕ = mul a (pow (pow 2 (length r)) i) in
    ap (λ (u : List ℕ). syndrome u i) (change_rest a r k v m) ∙ syndrome-cons a (change r k v) (h.0, change-bytes r k v h.1 hv) i
    ∙ ap₂ (λ (n u : ℕ). add (mul a (pow (pow 2 n) i)) u) (change-length r k v) (change-syndrome r k v h.1 hv m i)
    ∙ add_left_comm y x (syndrome r i) ∙ ap (add x) (sym (syndrome-cons a r h i)))

distance_head : (a b : ℕ) (r : List ℕ) → distance (a ∷ r) (b ∷ r) ≤ 1
unfolding distance
distance_head a b r = omega (arith, bit_le (not (eqb a b)), distance_self r)

distance_tail : (a : ℕ) (r s : List ℕ) → distance (a ∷ r) (a ∷ s) ≡ distance r s
unfolding distance
distance_tail a r s = rw (eq-eqb a a refl) (omega arith)

change-distance : (w : List ℕ) (k v : ℕ) → k < length w → distance w (change w k v) ≤ 1
change-distance [] k v l = absurd (omega arith)
change-distance (a ∷ r) k v l = dite (ℕ_discrete k (length r))
    (λ e. rw (change_first a r k v e) (distance_head a (add a v) r))
    (λ ne.
    let m : k < length r = omega (arith, ne) in
    rw (change_rest a r k v m, distance_tail) (change-distance r k v m))

-- ---- all of them taken away

module _ (i : ℕ) where
  without-syndrome : (es : List WrongByte) (w : List ℕ) → Bytes w → Inside (length w) es → syndrome (without_wrong es w) i ≡ add (sum_of es i) (syndrome w i)
  unfolding without_wrong sum_of Inside
  without-syndrome [] w h m = sym (zero-add (syndrome w i))
  without-syndrome (e ∷ es) w h m =
      let k : ℕ = e.place in
      let v : ℕ = e.value in
      without-syndrome es (change w k v) (change-bytes w k v h m.1) (subst (λ (n : ℕ). Inside n es) (sym (change-length w k v)) m.2)
      ∙ ap (add (sum_of es i)) (change-syndrome w k v h m.1 m.0 i)
      ∙ add_left_comm (sum_of es i) (mul v (pow (pow 2 k) i)) (syndrome w i) ∙ sym (add_assoc (mul v (pow (pow 2 k) i)) (sum_of es i) (syndrome w i))

without-length : (es : List WrongByte) (w : List ℕ) → length (without_wrong es w) ≡ length w
unfolding without_wrong
without-length [] w = refl
without-length (e ∷ es) w = without-length es (change w e.place e.value) ∙ change-length w e.place e.value

without-bytes : (es : List WrongByte) (w : List ℕ) (n : ℕ) → Bytes w → Inside n es → Bytes (without_wrong es w)
unfolding without_wrong Inside
without-bytes [] w n h m = h
without-bytes (e ∷ es) w n h m = without-bytes es (change w e.place e.value) n (change-bytes w e.place e.value h m.1) m.2

without-distance : (es : List WrongByte) (w : List ℕ) → Inside (length w) es → distance w (without_wrong es w) ≤ length es
unfolding without_wrong Inside
without-distance [] w m = omega (arith, distance_self w)
without-distance (e ∷ es) w m =
    let u : List ℕ = change w e.place e.value in
    let l : length u ≡ length w = change-length w e.place e.value in
    omega (
      arith,
      distance_triangle w (without_wrong es u) u (sym l) (sym (without-length es u)),
      change-distance w e.place e.value m.0,
      without-distance es u (subst (λ (n : ℕ). Inside n es) (sym l) m.2),
    )

-- ---- the wrong bytes of a word of errors: those that are not 0

wrongs : List ℕ → List WrongByte
wrongs [] = []
wrongs (zero ∷ r) = wrongs r
wrongs (suc b ∷ r) = record { place = length r; value = suc b } ∷ wrongs r

wrongs_length : (r : List ℕ) → length (wrongs r) ≡ weight r
unfolding wrongs weight
wrongs_length [] = refl
wrongs_length (zero ∷ r) = wrongs_length r
wrongs_length (suc b ∷ r) = ap suc (wrongs_length r)

in_order_up : (m n : ℕ) (es : List WrongByte) → m ≤ n → InOrder m es → InOrder n es
unfolding InOrder
in_order_up m n [] l o = tt
in_order_up m n (e ∷ es) l o = (omega (arith, o.0), o.1, o.2, o.3)

wrongs_in_order : (r : List ℕ) → Bytes r → InOrder (length r) (wrongs r)
unfolding wrongs InOrder Bytes
wrongs_in_order [] h = tt
wrongs_in_order (zero ∷ r) h = in_order_up (length r) (suc (length r)) (wrongs r) (omega arith) (wrongs_in_order r h.1)
wrongs_in_order (suc b ∷ r) h = (omega arith, omega arith, h.0, wrongs_in_order r h.1)

wrongs_sum : (r : List ℕ) → Bytes r → (i : ℕ) → syndrome r i ≡ sum_of (wrongs r) i
unfolding wrongs sum_of Bytes
wrongs_sum [] h i = syndrome-nil i
wrongs_sum (zero ∷ r) h i = syndrome-cons 0 r h i ∙ ap₂ add (zero-mul (pow (pow 2 (length r)) i)) (wrongs_sum r h.1 i) ∙ zero-add (sum_of (wrongs r) i)
wrongs_sum (suc b ∷ r) h i = syndrome-cons (suc b) r h i ∙ ap (add (mul (suc b) (pow (pow 2 (length r)) i))) (wrongs_sum r h.1 i)

-- ---- what the light repair gives

-- S are the p sums of w
module _ (p t : ℕ) (w : List ℕ) (hw : Bytes w) (S : ℕ → ℕ) (synd : (i : ℕ) → i < p → S i ≡ syndrome w i) where
  -- without wrong bytes that explain the sums it is a code word near it
  explained_near : (es : List WrongByte) → Explains S p (length w) es → length es ≤ t → Near p t w (without_wrong es w)
  explained_near es ex few = record {
    bytes = without-bytes es w (length w) hw ex.inside;
    len = sym (without-length es w);
    code = λ i l. without-syndrome i es w hw ex.inside ∙ ap₂ add (sym (ex.sums i l)) (sym (synd i l)) ∙ add_self (S i);
    close = omega (arith, without-distance es w ex.inside, few);
  }

  pub explained_repaired : length w ≤ 255 → t + t ≤ p → (es : List WrongByte) → Explains S p (length w) es → length es ≤ t → LightRepaired p t w (without_wrong es w) Repaired
  explained_repaired short room es ex few =
      let n = explained_near es ex few in
      (sym (nearest_near p t w hw short room (without_wrong es w) n), sym (near_repaired p t w hw (without_wrong es w) n))

  -- a code word near it leaves wrong bytes that explain the sums
  pub unexplained_heavier : ((m : ℕ) → m ≤ t → Unexplained S p (length w) m) → LightRepaired p t w w Heavier
  unexplained_heavier none = none-heavier p t w hw each
    where
      each : (c : List ℕ) → Near p t w c → ⊥
      each c n =
          let d : List ℕ = add_words w c in
          let hd : Bytes d = add_words-bytes w c hw n.bytes in
          none (length (wrongs d)) (omega (arith, wrongs_length d, distance_weight w c n.len, n.close)) (wrongs d) refl
          (subst (λ (m : ℕ). InOrder m (wrongs d)) (add_words-length w c n.len) (wrongs_in_order d hd))
          (λ i l. synd i l ∙ sym (syndrome-add w c n.len i ∙ ap (add (syndrome w i)) (n.code i l) ∙ add-zero (syndrome w i)) ∙ wrongs_sum d hd i)
