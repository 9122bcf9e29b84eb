-- The nearest code word: there is at most one within t bytes where 2 t ≤ p, and `nearest` gives it, or the word where there is none.
-- Assumes nothing.
use mathlib.Core.Path.{◌≡◌, refl, sym, ap, ap₂, subst, ◌∙◌}
use mathlib.Core.Bool.{Bool, true, false, false≢true, not, cond}
use mathlib.Core.List.{List, [], ◌∷◌, ◌++◌, map}
use mathlib.Core.Logic.{◌⊎◌, inl, inr, ◌≢◌}
use Prim.Native.Nat.{ℕ, zero, suc, ◌+◌, ◌<◌, ◌≤◌}
use native.Mathlib.Nat.{not-suc-le-zero, le_of_suc-le-suc, eq-or-lt_of_le}
use native.Mathlib.Omega.{arith}
use borrow.Author.Tests.{eq-eqb, ne_eqb, eqb-true, eqb-false, le-leb, leb-true, leb-false}
use lib.Dec.{T, eqb, leb, leb→le}
use lib.ListN.{length}
use Rattle.lists.specs.Bytes.{Bytes}
use Rattle.lists.specs.Count.{bit, distance}
use Rattle.lists.proofs.Test.{and_left, and_right, truth}
use Rattle.field.specs.Field.{add}
use Rattle.field.proofs.Field.{add_self, eq_of_add}
use Rattle.codes.specs.Word.{is_code}
use Rattle.codes.specs.Parity.{add_words}
use Rattle.codes.specs.Nearest.{preceded, all_words, first_of, is_near, nearest, outcome_of}
use Rattle.codes.specs.declared.Outcome.TheVariants.{Clean, Corrected, Uncorrectable}
use Rattle.codes.proofs.Words.{IsCode, code_of_test, test_of_code, if_nonzero, weight, unique, triangle}

-- ---- the distance is the weight of the sum

pub distance_weight : (r s : List ℕ) → length r ≡ length s → weight (add_words r s) ≡ distance r s
unfolding add_words weight distance
distance_weight [] s l = refl
distance_weight (a ∷ r) [] l = absurd (omega arith)
distance_weight (a ∷ r) (b ∷ s) l = go (add a b) refl (distance_weight r s (omega arith))
  where
    go : (x : ℕ) → add a b ≡ x → weight (add_words r s) ≡ distance r s → if_nonzero x (weight (add_words r s)) ≡ bit (not (eqb a b)) + distance r s
    go zero e ih = rw (eq-eqb a b (eq_of_add a b e)) (omega arith)
    go (suc x) e ih = rw (ne_eqb a b (λ q. let z : suc x ≡ 0 = sym e ∙ ap (add a) (sym q) ∙ add_self a in omega arith)) (omega arith)

pub distance_swap : (r s : List ℕ) → length r ≡ length s → distance r s ≡ distance s r
unfolding distance
distance_swap [] [] l = refl
distance_swap [] (b ∷ s) l = absurd (omega arith)
distance_swap (a ∷ r) [] l = absurd (omega arith)
distance_swap (a ∷ r) (b ∷ s) l =
    ap₂ (λ (x y : ℕ). x + y) (ap (λ (t : Bool). bit (not t)) (eqb_swap a b)) (distance_swap r s (omega arith))
  where
    eqb_swap : (a b : ℕ) → eqb a b ≡ eqb b a
    eqb_swap a b = go (eqb a b) refl
      where
        go : (t : Bool) → eqb a b ≡ t → t ≡ eqb b a
        go true e = sym (eq-eqb b a (sym (eqb-true a b e)))
        go false e = sym (ne_eqb b a (λ q. eqb-false a b e (sym q)))

pub distance_triangle : (r s u : List ℕ) → length r ≡ length u → length u ≡ length s → distance r s ≤ distance r u + distance u s
distance_triangle r s u l m =
    omega (arith, triangle r s u l m, distance_weight r s (l ∙ m), distance_weight r u l, distance_weight u s m)

-- THE MINIMUM DISTANCE: two code words of at most 255 bytes with p roots that differ in at most p bytes are equal
pub minimum_distance :
    (p : ℕ) (r s : List ℕ) → Bytes r → Bytes s → length r ≡ length s → length r ≤ 255 → distance r s ≤ p → IsCode p r → IsCode p s → r ≡ s
minimum_distance p r s h k l m d = unique p r s h k l m (omega (arith, distance_weight r s l))

-- so two that are not equal differ in more than p
pub code_words_apart :
    (p : ℕ) (r s : List ℕ) → Bytes r → Bytes s → length r ≡ length s → length r ≤ 255 → IsCode p r → IsCode p s → r ≢ s → p < distance r s
code_words_apart p r s h k l m c d n = go (leb (distance r s) p) refl
  where
    go : (b : Bool) → leb (distance r s) p ≡ b → p < distance r s
    go true e = absurd (n (minimum_distance p r s h k l m (leb-true (distance r s) p e) c d))
    go false e = leb-false (distance r s) p e

-- ---- all words of n bytes

-- c stands in a list of words
In : List ℕ → List (List ℕ) → Type 0
In c [] = ⊥
In c (w ∷ ws) = (c ≡ w) ⊎ In c ws

in_left : (c : List ℕ) (us vs : List (List ℕ)) → In c us → In c (us ++ vs)
unfolding In
in_left c [] vs h = absurd h
in_left c (u ∷ us) vs (inl e) = inl e
in_left c (u ∷ us) vs (inr h) = inr (in_left c us vs h)

in_right : (c : List ℕ) (us vs : List (List ℕ)) → In c vs → In c (us ++ vs)
unfolding In
in_right c [] vs h = h
in_right c (u ∷ us) vs h = inr (in_right c us vs h)

in_map : (b : ℕ) (c : List ℕ) (ws : List (List ℕ)) → In c ws → In (b ∷ c) (map (λ w. b ∷ w) ws)
unfolding In
in_map b c [] h = absurd h
in_map b c (w ∷ ws) (inl e) = inl (ap (λ (x : List ℕ). b ∷ x) e)
in_map b c (w ∷ ws) (inr h) = inr (in_map b c ws h)

in_preceded : (m b : ℕ) (c : List ℕ) (ws : List (List ℕ)) → b < m → In c ws → In (b ∷ c) (preceded m ws)
unfolding preceded
in_preceded zero b c ws l h = absurd (not-suc-le-zero l)
in_preceded (suc m) b c ws l h = go (λ k. in_preceded m b c ws k h) (eq-or-lt_of_le (le_of_suc-le-suc l))
  where
    go : (b < m → In (b ∷ c) (preceded m ws)) → (b ≡ m) ⊎ (b < m) → In (b ∷ c) (map (λ w. m ∷ w) ws ++ preceded m ws)
    go ih (inl e) = subst (λ (x : ℕ). In (x ∷ c) (map (λ w. m ∷ w) ws ++ preceded m ws)) (sym e) (in_left (m ∷ c) (map (λ w. m ∷ w) ws) (preceded m ws) (in_map m c ws h))
    go ih (inr k) = in_right (b ∷ c) (map (λ w. m ∷ w) ws) (preceded m ws) (ih k)

-- every word of n bytes is there
in_all : (c : List ℕ) → Bytes c → In c (all_words (length c))
unfolding all_words In Bytes
in_all [] h = inl refl
in_all (b ∷ c) h = in_preceded 256 b c (all_words (length c)) h.0 (in_all c h.1)

-- and nothing else
Word : ℕ → List ℕ → Type 0
Word n c = Bytes c × (length c ≡ n)

data Words (n : ℕ) : List (List ℕ) → Type 0 where
  none : Words n []
  more : {c : List ℕ} {ws : List (List ℕ)} → Word n c → Words n ws → Words n (c ∷ ws)

words_append : {n : ℕ} {us vs : List (List ℕ)} → Words n us → Words n vs → Words n (us ++ vs)
words_append none k = k
words_append (more w h) k = more w (words_append h k)

words_map : {n : ℕ} {ws : List (List ℕ)} (b : ℕ) → b < 256 → Words n ws → Words (suc n) (map (λ w. b ∷ w) ws)
unfolding Word Bytes
words_map b l none = none
words_map b l (more {c = c} w h) = more {c = b ∷ c} ((l, w.0), ap suc w.1) (words_map b l h)

words_preceded : {n : ℕ} {ws : List (List ℕ)} (m : ℕ) → m ≤ 256 → Words n ws → Words (suc n) (preceded m ws)
unfolding preceded
words_preceded zero l h = none
words_preceded (suc m) l h = words_append (words_map m l h) (words_preceded m (omega arith) h)

all_words_lem : (n : ℕ) → Words n (all_words n)
unfolding all_words Word Bytes
all_words_lem zero = more (tt, refl) none
all_words_lem (suc n) = words_preceded 256 (omega arith) (all_words_lem n)

-- ---- the first that passes

data First (t : List ℕ → Bool) (n : ℕ) (w : List ℕ) (ws : List (List ℕ)) : List ℕ → Type 0 where
  found : {c : List ℕ} → Word n c → T (t c) → First t n w ws c
  nothing : ((c : List ℕ) → In c ws → t c ≡ false) → First t n w ws w

first_of_lem : (t : List ℕ → Bool) (n : ℕ) (w : List ℕ) {ws : List (List ℕ)} → Words n ws → First t n w ws (first_of t w ws)
unfolding first_of In
first_of_lem t n w none = nothing (λ c h. absurd h)
first_of_lem t n w (more {c} {ws} k h) = go (t c) refl (first_of_lem t n w h)
  where
    carry : t c ≡ false → {d : List ℕ} → First t n w ws d → First t n w (c ∷ ws) d
    carry e (found k p) = found k p
    carry e (nothing f) = nothing (λ d. λ (i : In d (c ∷ ws)). each e f d i)
      where
        each : t c ≡ false → ((d : List ℕ) → In d ws → t d ≡ false) → (d : List ℕ) → (d ≡ c) ⊎ In d ws → t d ≡ false
        each e f d (inl q) = ap t q ∙ e
        each e f d (inr i) = f d i

    go : (b : Bool) → t c ≡ b → First t n w ws (first_of t w ws) → First t n w (c ∷ ws) (elim b [ true ↦ c | false ↦ first_of t w ws ])
    go true e r = found k (subst T (sym e) tt)
    go false e r = carry e r

-- d is a word of as many bytes as w that passes the test t, or it is w and no word of as many bytes passes
pub data Chosen (t : List ℕ → Bool) (w : List ℕ) : List ℕ → Type 0 where
  chosen : {c : List ℕ} → Bytes c → length c ≡ length w → T (t c) → Chosen t w c
  kept : ((c : List ℕ) → Bytes c → length c ≡ length w → t c ≡ false) → Chosen t w w

pub first_chosen : (t : List ℕ → Bool) (w : List ℕ) → Chosen t w (first_of t w (all_words (length w)))
unfolding Word
first_chosen t w = go (first_of_lem t (length w) w (all_words_lem (length w)))
  where
    go : {d : List ℕ} → First t (length w) w (all_words (length w)) d → Chosen t w d
    go (found {c} k h) = chosen k.0 k.1 h
    go (nothing f) = kept (λ c h l. f c (subst (λ (n : ℕ). In c (all_words n)) l (in_all c h)))

-- tests that agree on the words of as many bytes choose the same
pub same_chosen : (s t : List ℕ → Bool) (w : List ℕ) → ((c : List ℕ) → length c ≡ length w → s c ≡ t c)
    → first_of s w (all_words (length w)) ≡ first_of t w (all_words (length w))
unfolding Word first_of
same_chosen s t w agree = go (all_words_lem (length w))
  where
    go : {ws : List (List ℕ)} → Words (length w) ws → first_of s w ws ≡ first_of t w ws
    go none = refl
    go (more {c} {ws} k h) = ap₂ (λ (b : Bool) (r : List ℕ). elim b [ true ↦ c | false ↦ r ]) (agree c k.1) (go h)

-- ---- the nearest code word

-- c is a code word with p roots that differs from w in at most t bytes
pub record Near (p t : ℕ) (w c : List ℕ) : Type 0 where
  pub bytes : Bytes c
  pub len : length w ≡ length c
  pub code : IsCode p c
  pub close : distance w c ≤ t

module _ (p t : ℕ) (w : List ℕ) (hw : Bytes w) where
  pub test_near : (c : List ℕ) → Bytes c → length c ≡ length w → T (is_near p t w c) → Near p t w c
  unfolding is_near
  test_near c k l h = record {
    bytes = k;
    len = sym l;
    code = code_of_test p c (and_left (is_code p c) (leb (distance w c) t) h);
    close = leb→le (distance w c) t (and_right (is_code p c) (leb (distance w c) t) h);
  }

  pub near_test : (c : List ℕ) → Near p t w c → is_near p t w c ≡ true
  unfolding is_near
  near_test c n = rw (truth (is_code p c) (test_of_code p c n.code), le-leb (distance w c) t n.close)

  pub nearest-length : length (nearest p t w) ≡ length w
  unfolding nearest
  nearest-length = go (first_chosen (is_near p t w) w)
    where
      go : {d : List ℕ} → Chosen (is_near p t w) w d → length d ≡ length w
      go (chosen k l h) = l
      go (kept f) = refl

  module _ (short : length w ≤ 255) (room : t + t ≤ p) where
    -- at most one code word is near
    pub near_unique : (c d : List ℕ) → Near p t w c → Near p t w d → c ≡ d
    near_unique c d n m =
        minimum_distance p c d n.bytes m.bytes (sym n.len ∙ m.len) (omega (arith, n.len))
        (omega (arith, distance_triangle c d w (sym n.len) m.len, distance_swap c w (sym n.len), n.close, m.close)) n.code m.code

    -- THE REPAIR: a word that differs from a code word in at most t bytes is repaired to that code word
    pub nearest_near : (c : List ℕ) → Near p t w c → nearest p t w ≡ c
    unfolding nearest
    nearest_near c n = go (first_chosen (is_near p t w) w)
      where
        go : {d : List ℕ} → Chosen (is_near p t w) w d → d ≡ c
        go (chosen {c = d} k l h) = near_unique d c (test_near d k l h) n
        go (kept f) = absurd (false≢true (sym (f c n.bytes (sym n.len)) ∙ near_test c n))

  pub outcome_clean : is_code p w ≡ true → outcome_of p t w ≡ Clean
  unfolding outcome_of
  outcome_clean e = ap (λ (b : Bool). cond b Clean (cond (is_code p (nearest p t w)) Corrected Uncorrectable)) e

  pub outcome_corrected : is_code p w ≡ false → is_code p (nearest p t w) ≡ true → outcome_of p t w ≡ Corrected
  unfolding outcome_of
  outcome_corrected e f = ap₂ (λ (a b : Bool). cond a Clean (cond b Corrected Uncorrectable)) e f
