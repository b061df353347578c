-- The groups of a number, read from the low one up with what they are worth so far.
use Rattle.std.proofs.Common.{◌≡◌, ℕ, zero, suc, ◌+◌, ◌-◌, ◌*◌, ◌^◌, ◌<◌, ◌≤◌, Bool, true, false, cond, not, ◌&&◌, eqb, ltb, List, [], ◌∷◌, length, get_or, take, drop, min, IfOk, Ok, Err, Result, refl, ap, ◌∙◌, mul_assoc, pow-suc, mul-add, add-one, arith}
use Rattle.std.proofs.lemmas.List.{drop_more, take_min}
use Rattle.std.proofs.lemmas.Bool.{cond-true, cond-false, cond_both, lt-ltb, le-ltb, ne_eqb}
use Rattle.std.proofs.lemmas.Nat.{mul-le}
use Rattle.std.proofs.Math.Nat.{pow-le-pow_right}
use Rattle.sheet.specs.declared.numbers.Number.{Number}
use Rattle.sheet.specs.declared.numbers.NumberFault.{NumberFault}
use Rattle.sheet.specs.declared.numbers.NumberFault.TheVariants.{Malformed}
use Rattle.sheet.specs.Numbers.{below, last_group, groups, number_read}

-- what the groups from here on make of a number of which `size` groups, worth `value`, have been read
abbrev pub onto : ℕ → ℕ → ℕ → Result Number NumberFault → Result Number NumberFault
onto weight value size (Ok later) = Ok (record { value = value + weight * later.value; size = size + later.size })
onto weight value size (Err fault) = Err fault

-- what is left to read at the group `i`
abbrev pub left : List ℕ → ℕ → ℕ → Result Number NumberFault
left bytes place i = groups (4 - i) (eqb i 0) (drop i bytes) place

onto_below : (w v n d : ℕ) (r : Result Number NumberFault) → onto w v n (below d r) ≡ onto (w * 128) (v + w * d) (n + 1) r
onto_below w v n d (Err f) = refl
onto_below w v n d (Ok m) =
    let value : v + w * (d + 128 * m.value) ≡ v + w * d + w * 128 * m.value = omega (arith, mul-add w d (128 * m.value), mul_assoc w 128 m.value) in
    let size : n + (1 + m.size) ≡ n + 1 + m.size = omega arith in
    cc

from_nothing : (r : Result Number NumberFault) → onto 1 0 0 r ≡ r
from_nothing (Err f) = refl
from_nothing (Ok m) =
    let value : 0 + 1 * m.value ≡ m.value = omega arith in
    let size : 0 + m.size ≡ m.size = omega arith in
    λ i. Ok (record { value = value i; size = size i })

one_fewer : (i : ℕ) → i < 4 → 4 - i ≡ suc (4 - (i + 1))
one_fewer i h = omega arith

later : (i : ℕ) → eqb (i + 1) 0 ≡ false
later i = ne_eqb (i + 1) 0 (λ e. omega arith)

opened : (bytes : List ℕ) (place i : ℕ) → i < 4 → i < length bytes → left bytes place i ≡ groups (suc (4 - (i + 1))) (eqb i 0) (get_or bytes i 0 ∷ drop (i + 1) bytes) place
opened bytes place i h k = rw (one_fewer i h, drop_more bytes i 0 k)

at_last : (w v : ℕ) (bytes : List ℕ) (place i : ℕ) → i < 4 → i < length bytes → get_or bytes i 0 < 128 → onto w v i (left bytes place i) ≡ onto w v i (last_group (eqb i 0) (get_or bytes i 0) place)
at_last w v bytes place i h k small = ap (onto w v i) (opened bytes place i h k ∙ cond-true _ _ _ (lt-ltb _ _ small))

-- the number whose last group stands at `i`
pub whole_at : (w v : ℕ) (bytes : List ℕ) (place i : ℕ) → i < 4 → i < length bytes → get_or bytes i 0 < 128 → (eqb (get_or bytes i 0) 0 && not (eqb i 0)) ≡ false → onto w v i (left bytes place i) ≡ Ok (record { value = v + w * get_or bytes i 0; size = i + 1 })
whole_at w v bytes place i h k small adds = at_last w v bytes place i h k small ∙ ap (onto w v i) (cond-false _ _ _ adds)

-- a last group that adds nothing
pub longer_at : (w v : ℕ) (bytes : List ℕ) (place i : ℕ) → i < 4 → i < length bytes → get_or bytes i 0 < 128 → (eqb (get_or bytes i 0) 0 && not (eqb i 0)) ≡ true → onto w v i (left bytes place i) ≡ Err (Malformed place)
longer_at w v bytes place i h k small adds = at_last w v bytes place i h k small ∙ ap (onto w v i) (cond-true _ _ _ adds)

-- another group follows the one at `i`
pub at_more : (w v : ℕ) (bytes : List ℕ) (place i : ℕ) → i < 4 → i < length bytes → 128 ≤ get_or bytes i 0 → onto w v i (left bytes place i) ≡ onto (w * 128) (v + w * (get_or bytes i 0 - 128)) (i + 1) (left bytes place (i + 1))
at_more w v bytes place i h k large =
    let e = opened bytes place i h k ∙ cond-false _ _ _ (le-ltb _ _ large) in
    ap (onto w v i) e ∙ onto_below w v i _ _ ∙ rw later refl

-- no group past the first `n` is looked at
cut : (n : ℕ) (first : Bool) (bytes : List ℕ) (place : ℕ) → groups n first (take n bytes) place ≡ groups n first bytes place
cut zero first bytes place = refl
cut (suc n) first [] place = refl
cut (suc n) first (b ∷ bytes) place =
    ap (λ r. cond (ltb b 128) (last_group first b place) (below (b - 128) r)) (cut n false bytes place)

-- before the first group all is left
pub whole : (bytes : List ℕ) (place n : ℕ) → n ≡ min 4 (length bytes) → onto 1 0 0 (left (take n bytes) place 0) ≡ number_read bytes place
unfolding number_read
whole bytes place n e =
    from_nothing (groups 4 true (take n bytes) place)
    ∙ ap (λ l. groups 4 true l place) (ap (λ m. take m bytes) e ∙ take_min 4 bytes)
    ∙ cut 4 true bytes place

-- one more group keeps the value below the weight of the next, and that within 28 bits
pub room : (i w v d : ℕ) → i < 4 → w ≡ 128 ^ i → v < w → d < 128 → (v + w * d < w * 128) × (w * 128 ≤ 268435456)
room i w v d h e below-weight small =
    let most : 128 ^ i ≤ 128 ^ 3 = pow-le-pow_right {n = 128} (omega arith) {j = 3} (omega arith) in
    let group = mul-le w d w 127 (omega arith) (omega arith) in
    (omega arith, omega arith)

pub heavier : (i w : ℕ) → w ≡ 128 ^ i → w * 128 ≡ 128 ^ (i + 1)
heavier i w e = rw (add-one, pow-suc) (ap (λ n. n * 128) e)

-- a number takes at least one byte, and no more than there are
abbrev pub Within : List ℕ → Number → Type 0
Within bytes n = (0 < n.size) × (n.size ≤ length bytes)

below_within : (d b : ℕ) (bytes : List ℕ) (r : Result Number NumberFault) → IfOk r (Within bytes) → IfOk (below d r) (Within (b ∷ bytes))
below_within d b bytes (Ok n) h = (omega arith, omega arith)
below_within d b bytes (Err f) h = tt

groups_within : (n : ℕ) (first : Bool) (bytes : List ℕ) (place : ℕ) → IfOk (groups n first bytes place) (Within bytes)
groups_within zero first bytes place = tt
groups_within (suc n) first [] place = tt
groups_within (suc n) first (b ∷ bytes) place =
    let P : Result Number NumberFault → Type 0 = λ r. IfOk r (Within (b ∷ bytes)) in
    cond_both (ltb b 128) _ _ P
    (λ _. cond_both (eqb b 0 && not first) _ _ P (λ _. tt) (λ _. (omega arith, omega arith)))
    (λ _. below_within (b - 128) b bytes _ (groups_within n false bytes place))

pub number_within : (bytes : List ℕ) (place : ℕ) → IfOk (number_read bytes place) (Within bytes)
unfolding number_read
number_within bytes place = groups_within 4 true bytes place
