-- Runs of lists: one after the other (`cat`), only those whose number passes a test (`gather`), what stands in such a run (`At`), and lists in ascending order.
use Rattle.std.specs.Prelude.{◌≡◌, Bool, true, false, ◌⊎◌, List, [], ◌∷◌, ◌++◌, ℕ, zero, suc, ◌+◌, ◌*◌, ◌-◌, ◌≤◌, ◌<◌, take, get_or}
use Rattle.std.proofs.Math.Path.{refl}
use Rattle.std.proofs.Common.{sym, ap, ap₂, subst, ◌∙◌, inl, inr, append-nil, arith, not-suc-le-zero, le_refl, zero-lt-suc, le_of_suc-le-suc, mul-zero, mul-suc, mul-le-mul_left, add-zero, add-one, get_or-append-add, take-add, take_all}
use Rattle.std.proofs.Math.Decide.{dec_lt, le_ind}
use Rattle.std.proofs.Math.ListN.{length, length-append, get_or-append}
use Rattle.std.proofs.Math.Seq.{get_or-append_right}
use Rattle.ground.specs.Tests.{lt_cases}
use Rattle.ground.specs.Counts.{count}
use Rattle.ground.specs.Lists.{part, part_front, part_back, part_all}

-- ---- f 0, f 1, .., f (n - 1), one after the other

unfoldable pub cat {ℓ} : {A : Type ℓ} → ℕ → (ℕ → List A) → List A
cat zero f = []
cat (suc n) f = cat n f ++ f n

pub cat_more {ℓ} : {A : Type ℓ} (n : ℕ) (f : ℕ → List A) → cat (n + 1) f ≡ cat n f ++ f n
unfolding cat
cat_more n f = rw (add-one n)

pub cat_le {ℓ} : {A : Type ℓ} (i n : ℕ) (f : ℕ → List A) → i ≤ n → length (cat i f) ≤ length (cat n f)
unfolding cat
cat_le i n f h = le_ind (λ (k : ℕ). length (cat i f) ≤ length (cat k f)) (le_refl _) (λ k l ih. omega (arith, length-append (cat k f) (f k))) n h

pub cat_ext {ℓ} : {A : Type ℓ} (n : ℕ) (f g : ℕ → List A) → ((i : ℕ) → i < n → f i ≡ g i) → cat n f ≡ cat n g
unfolding cat
cat_ext zero f g h = refl
cat_ext (suc n) f g h = ap₂ (λ xs ys. xs ++ ys) (cat_ext n f g (λ i l. h i (omega arith))) (h n (omega arith))

pub length_cat {ℓ} : {A : Type ℓ} (n w : ℕ) (f : ℕ → List A) → ((i : ℕ) → i < n → length (f i) ≡ w) → length (cat n f) ≡ w * n
unfolding cat
length_cat zero w f h = sym (mul-zero w)
length_cat (suc n) w f h =
    length-append (cat n f) (f n) ∙ ap₂ (λ (a b : ℕ). a + b) (length_cat n w f (λ i k. h i (omega arith))) (h n (omega arith)) ∙ sym (mul-suc w n)

-- a list is the run of its parts, and a part of a run is one of its lists
pub cat_take : (n w : ℕ) (l : List ℕ) → cat n (λ i. part l (w * i) w) ≡ take (w * n) l
unfolding cat part
cat_take zero w l = rw (mul-zero w)
cat_take (suc n) w l = rw (cat_take n w l, mul-suc w n) (sym (take-add (w * n) w l))

pub cat_split : (n w : ℕ) (l : List ℕ) → length l ≡ w * n → l ≡ cat n (λ i. part l (w * i) w)
cat_split n w l e = sym (cat_take n w l ∙ take_all (w * n) l (omega arith))

pub cat_part : (n w b : ℕ) (g : ℕ → List ℕ) → ((i : ℕ) → length (g i) ≡ w) → b < n → part (cat n g) (w * b) w ≡ g b
unfolding cat
cat_part zero w b g len h = absurd (omega arith)
cat_part (suc n) w b g len h = elim (dec_lt b n) [
  | yes k ↦
      let m : w * suc b ≤ w * n = mul-le-mul_left w k in
      let s : w * suc b ≡ w * b + w = mul-suc w b in
      let c : length (cat n g) ≡ w * n = length_cat n w g (λ i _. len i) in
      part_front (cat n g) (g n) (w * b) w (omega arith) ∙ cat_part n w b g len k
  | no k ↦
      let e : b ≡ n = omega arith in
      let c = part_back (cat n g) (g n) (w * n) 0 w (length_cat n w g (λ i _. len i)) in
      rw (e, ← add-zero (w * n), c) (part_all (g n) w (len n))
]

-- ---- what passes, in order: for each k below n where p holds, f k

unfoldable pub when {ℓ} : {A : Type ℓ} → Bool → List A → List A
when true xs = xs
when false xs = []

unfoldable pub gather {ℓ} : {A : Type ℓ} → ℕ → (ℕ → Bool) → (ℕ → List A) → List A
gather n p f = cat n (λ k. when (p k) (f k))

module _ {ℓ} {A : Type ℓ} (p : ℕ → Bool) (f : ℕ → List A) where
  pub gather_zero : gather 0 p f ≡ []
  unfolding gather cat
  gather_zero = refl

  pub gather_yes : (i : ℕ) → p i ≡ true → gather (i + 1) p f ≡ gather i p f ++ f i
  unfolding gather cat when
  gather_yes i e = rw (add-one i, e)

  pub gather_no : (i : ℕ) → p i ≡ false → gather (i + 1) p f ≡ gather i p f
  unfolding gather cat when
  gather_no i e = rw (add-one i, e) (append-nil (gather i p f))

  pub gather_le : (i n : ℕ) → i ≤ n → length (gather i p f) ≤ length (gather n p f)
  unfolding gather
  gather_le i n h = cat_le i n (λ k. when (p k) (f k)) h

  pub gather_skip : (i n : ℕ) → i ≤ n → ((k : ℕ) → i ≤ k → k < n → p k ≡ false) → gather n p f ≡ gather i p f
  gather_skip i n h none = le_ind (λ (m : ℕ). m ≤ n → gather m p f ≡ gather i p f) (λ _. refl)
      (λ k l ih m. ap (λ (z : ℕ). gather z p f) (sym (add-one k)) ∙ gather_no k (none k l m) ∙ ih (omega arith)) n h (le_refl n)

pub gather_ext {ℓ} : {A : Type ℓ} (n : ℕ) (p q : ℕ → Bool) (f g : ℕ → List A) → ((i : ℕ) → i < n → p i ≡ q i) → ((i : ℕ) → i < n → f i ≡ g i) → gather n p f ≡ gather n q g
unfolding gather cat
gather_ext zero p q f g e h = refl
gather_ext (suc n) p q f g e h = ap₂ (λ xs ys. xs ++ ys) (gather_ext n p q f g (λ i l. e i (omega arith)) (λ i l. h i (omega arith)))
    (ap₂ when (e n (omega arith)) (h n (omega arith)))

-- a run of single entries has as many as pass
pub gather_length {ℓ} : {A : Type ℓ} (n : ℕ) (p : ℕ → Bool) (f : ℕ → A) → length (gather n p (λ k. f k ∷ [])) ≡ count n p
unfolding gather cat when count
gather_length zero p f = refl
gather_length (suc n) p f = length-append (gather n p (λ k. f k ∷ [])) (when (p n) (f n ∷ [])) ∙ ap₂ (λ (x y : ℕ). x + y) (gather_length n p f) (ones (p n))
  where
    ones : (t : Bool) → length (when t (f n ∷ [])) ≡ Rattle.ground.specs.Counts.one t
    ones true = refl
    ones false = refl

-- ---- x stands in xs

pub record At {ℓ} {A : Type ℓ} (d x : A) (xs : List A) : Type ℓ where
  pub index : ℕ
  pub below : index < length xs
  pub is : get_or xs index d ≡ x

pub at_left {ℓ} : {A : Type ℓ} {d x : A} (xs ys : List A) → At d x xs → At d x (xs ++ ys)
at_left {d = d} xs ys a = record { index = a.index; below = omega (arith, length-append xs ys, a.below); is = get_or-append xs ys d a.index a.below ∙ a.is }

pub at_right {ℓ} : {A : Type ℓ} {d x : A} (xs ys : List A) → At d x ys → At d x (xs ++ ys)
at_right {d = d} xs ys a = record { index = length xs + a.index; below = omega (arith, length-append xs ys, a.below); is = get_or-append-add xs ys a.index d ∙ a.is }

pub at_cases {ℓ} : {A : Type ℓ} {d x : A} (xs ys : List A) → At d x (xs ++ ys) → At d x xs ⊎ At d x ys
at_cases {d = d} xs ys a = elim (dec_lt a.index (length xs)) [
  | yes l ↦ inl (record { index = a.index; below = l; is = sym (get_or-append xs ys d a.index l) ∙ a.is })
  | no l ↦ let b = a.below in
      inr (record { index = a.index - length xs; below = omega (arith, length-append xs ys); is = sym (get_or-append_right xs ys a.index d (omega arith)) ∙ a.is })
]

pub single {ℓ} : {A : Type ℓ} {d x : A} (y : A) → At d x (y ∷ []) → y ≡ x
single {d = d} {x = x} y a = subst (λ (k : ℕ). get_or (y ∷ []) k d ≡ x) (let b : a.index < 1 = a.below in let e : a.index ≡ 0 = omega arith in e) a.is

-- what a gathered run holds
pub record Passed {ℓ} {A : Type ℓ} (d x : A) (n : ℕ) (p : ℕ → Bool) (f : ℕ → List A) : Type ℓ where
  pub at : ℕ
  pub below : at < n
  pub passes : p at ≡ true
  pub within : At d x (f at)

when_out {ℓ} : {A : Type ℓ} {d x : A} (t : Bool) (xs : List A) → At d x (when t xs) → (t ≡ true) × At d x xs
unfolding when
when_out true xs a = (refl, a)
when_out false xs a = absurd (not-suc-le-zero a.below)

pub gather_out {ℓ} : {A : Type ℓ} {d x : A} (n : ℕ) (p : ℕ → Bool) (f : ℕ → List A) → At d x (gather n p f) → Passed d x n p f
unfolding gather cat
gather_out zero p f a = absurd (not-suc-le-zero a.below)
gather_out (suc n) p f a = elim (at_cases (gather n p f) (when (p n) (f n)) a) [
  | inl b ↦ let r = gather_out n p f b in record { at = r.at; below = omega (arith, r.below); passes = r.passes; within = r.within }
  | inr b ↦ let w = when_out (p n) (f n) b in record { at = n; below = le_refl (suc n); passes = w.0; within = w.1 }
]

pub gather_in {ℓ} : {A : Type ℓ} {d x : A} (n : ℕ) (p : ℕ → Bool) (f : ℕ → List A) → Passed d x n p f → At d x (gather n p f)
unfolding gather cat when
gather_in zero p f r = absurd (not-suc-le-zero r.below)
gather_in {d = d} {x = x} (suc n) p f r = elim (lt_cases r.below) [
  | inl e ↦ at_right (gather n p f) (when (p n) (f n)) (let t : p n ≡ true = rw e at r.passes in rw t (rw e at r.within))
  | inr l ↦ at_left (gather n p f) (when (p n) (f n)) (gather_in n p f (record { at = r.at; below = l; passes = r.passes; within = r.within }))
]

-- where an entry of f i stands in it
pub gather_at {ℓ} : {A : Type ℓ} (n i j : ℕ) (p : ℕ → Bool) (f : ℕ → List A) (d : A) → i < n → p i ≡ true → j < length (f i) → get_or (gather n p f) (length (gather i p f) + j) d ≡ get_or (f i) j d
unfolding gather cat when
gather_at zero i j p f d l e h = absurd (not-suc-le-zero l)
gather_at {A = A} (suc n) i j p f d l e h = elim (lt_cases l) [
  | inl q ↦ let t : p n ≡ true = rw q at e in rw (q, t) (get_or-append-add (gather n p f) (f n) j d)
  | inr k ↦
      get_or-append (gather n p f) (when (p n) (f n)) d (length (gather i p f) + j)
      (omega (arith, gather_le p f (i + 1) n (omega arith), ap length (gather_yes p f i e), length-append (gather i p f) (f i)))
      ∙ gather_at n i j p f d k e h
]

-- ---- ascending by a key: two such lists with the same members are one

module _ {A : Type 0} (d : A) (key : A → ℕ) (inj : (x y : A) → key x ≡ key y → x ≡ y) where
  -- each record is above the one before
  abbrev pub Ascending : List A → Type 0
  Ascending xs = (i : ℕ) → i + 1 < length xs → key (get_or xs i d) < key (get_or xs (i + 1) d)

  -- and so above every one before
  abbrev Sorted : List A → Type 0
  Sorted xs = (i j : ℕ) → i < j → j < length xs → key (get_or xs i d) < key (get_or xs j d)

  pub sorted : (xs : List A) → Ascending xs → Sorted xs
  sorted xs a i zero h l = absurd (not-suc-le-zero h)
  sorted xs a i (suc j) h l =
      let s : key (get_or xs j d) < key (get_or xs (suc j) d) = rw (add-one j) at (a j (omega arith)) in
      elim (lt_cases h) [ inl e ↦ rw e s | inr k ↦ (let r = sorted xs a i j k (omega arith) in omega arith) ]

  at_head : (x : A) (xs : List A) → At d x (x ∷ xs)
  at_head x xs = record { index = 0; below = zero-lt-suc (length xs); is = refl }

  at_tail : (x y : A) (xs : List A) → At d y xs → At d y (x ∷ xs)
  at_tail x y xs a = record { index = suc a.index; below = omega (arith, a.below); is = a.is }

  at_cons : (x y : A) (xs : List A) → At d y (x ∷ xs) → (y ≡ x) ⊎ At d y xs
  at_cons x y xs a = go a.index a.below a.is
    where
      go : (i : ℕ) → i < suc (length xs) → get_or (x ∷ xs) i d ≡ y → (y ≡ x) ⊎ At d y xs
      go zero l e = inl (sym e)
      go (suc i) l e = inr (record { index = i; below = le_of_suc-le-suc l; is = e })

  sorted_tail : (x : A) (xs : List A) → Sorted (x ∷ xs) → Sorted xs
  sorted_tail x xs s i j h l = s (suc i) (suc j) (omega arith) (omega arith)

  head_below : (x y : A) (xs : List A) → Sorted (x ∷ xs) → At d y xs → key x < key y
  head_below x y xs s a = subst (λ (z : A). key x < key z) a.is (s 0 (suc a.index) (omega arith) (omega (arith, a.below)))

  head_least : (x y : A) (xs : List A) → Sorted (x ∷ xs) → At d y (x ∷ xs) → key x ≤ key y
  head_least x y xs s a = elim (at_cons x y xs a) [ inl e ↦ omega (arith, ap key e) | inr b ↦ omega (arith, head_below x y xs s b) ]

  same_sorted : (xs ys : List A) → Sorted xs → Sorted ys → ((x : A) → At d x xs → At d x ys) → ((x : A) → At d x ys → At d x xs) → xs ≡ ys
  same_sorted [] [] s t f g = refl
  same_sorted [] (y ∷ ys) s t f g = absurd (not-suc-le-zero (g y (at_head y ys)).below)
  same_sorted (x ∷ xs) [] s t f g = absurd (not-suc-le-zero (f x (at_head x xs)).below)
  same_sorted (x ∷ xs) (y ∷ ys) s t f g = ap₂ {C = List A} (λ (a : A) (rest : List A). a ∷ rest) e
      (same_sorted xs ys (sorted_tail x xs s) (sorted_tail y ys t)
      (λ z a. drop_head x y z ys (head_below x z xs s a) e (f z (at_tail x z xs a)))
      (λ z a. drop_head y x z xs (head_below y z ys t a) (sym e) (g z (at_tail y z ys a))))
    where
      e : x ≡ y
      e = inj x y (let p = head_least x y xs s (g y (at_head y ys)) in let q = head_least y x ys t (f x (at_head x xs)) in omega arith)

      drop_head : (a b z : A) (bs : List A) → key a < key z → a ≡ b → At d z (b ∷ bs) → At d z bs
      drop_head a b z bs l q m = elim (at_cons b z bs m) [ inl k ↦ absurd (let r = ap key k in let w = ap key q in omega arith) | inr k ↦ k ]

  pub same_ascending : (xs ys : List A) → Ascending xs → Ascending ys → ((x : A) → At d x xs → At d x ys) → ((x : A) → At d x ys → At d x xs) → xs ≡ ys
  same_ascending xs ys a b = same_sorted xs ys (sorted xs a) (sorted ys b)
