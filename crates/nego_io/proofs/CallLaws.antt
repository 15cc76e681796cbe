-- Calls on one disk, one after another.
use Rattle.std.proofs.Common.{◌≡◌, ◌≢◌, ℕ, ◌≤◌, inl, inr, ⊎_elim, IsTrue, All, List, [], ◌∷◌, ◌++◌, refl, sym, ◌∙◌, subst, arith}
use Rattle.std.proofs.lemmas.List.Elements.{All-nil, All-cons, All-head, All-tail}
use Rattle.std.proofs.lemmas.Bool.{cases_lt, cases_eq}
use Rattle.nego_io.specs.Disks.{ToldDisks, LeavesNow, IsSince, Elapses, IsAsBefore, AreCallsOn, AreCallsOnDisks, LeavesOnly, IsRead}

-- With no call nothing changes.
pub calls-none : (i : ℕ) (d : ToldDisks) → AreCallsOn i d d
calls-none i d = record {
  told = λ told. told;
  disks = refl;
  later = omega arith;
  faults = λ j differ. refl;
  elapses = λ told. record { later = omega arith; past = λ t j image le. (λ left. left, λ left. left) };
  others = λ j differ told. record { content = refl; images = λ t image since. now t j image since };
}
  where
    now : (t j : ℕ) (image : List ℕ) → IsSince d d t → (d.leaves t j image → LeavesNow d j image) × (LeavesNow d j image → d.leaves t j image)
    now t j image since =
        let same : t ≡ d.moment = omega (arith, since.from, since.to) in
        (λ left. subst (λ (n : ℕ). d.leaves n j image) same left, λ left. subst (λ (n : ℕ). d.leaves n j image) (sym same) left)

-- Time goes on, and then on.
elapses-then : (a b c : ToldDisks) → Elapses a b → Elapses b c → Elapses a c
elapses-then a b c f s = record {
  later = omega (arith, f.later, s.later);
  past = λ t j image le.
      let within : t ≤ b.moment = omega (arith, le, f.later) in
      (λ left. (f.past t j image le).0 ((s.past t j image within).0 left), λ left. (s.past t j image within).1 ((f.past t j image le).1 left));
}

-- A disk that is as before, and then still.
before-then : (j : ℕ) (a b c : ToldDisks) → Elapses a b → Elapses b c → IsAsBefore j a b → IsAsBefore j b c → IsAsBefore j a c
before-then j a b c f s of_f of_s = record {
  content = of_s.content ∙ of_f.content;
  images = λ t image since. elim (cases_lt b.moment t) [
    | inl after ↦
        let later : IsSince b c t = record { from = omega (arith, after); to = since.to } in
        let at_b : IsSince a b b.moment = record { from = f.later; to = omega arith } in
        (λ left. (of_f.images b.moment image at_b).0 ((of_s.images t image later).0 left), λ left. (of_s.images t image later).1 ((of_f.images b.moment image at_b).1 left))
    | inr before ↦
        let sooner : IsSince a b t = record { from = since.from; to = before } in
        (λ left. (of_f.images t image sooner).0 ((s.past t j image before).0 left), λ left. (s.past t j image before).1 ((of_f.images t image sooner).1 left))
  ];
}

-- Calls, and then more.
pub calls-then : (i : ℕ) (a b c : ToldDisks) → AreCallsOn i a b → AreCallsOn i b c → AreCallsOn i a c
calls-then i a b c first second = record {
  told = λ told. first.told (second.told told);
  disks = second.disks ∙ first.disks;
  later = omega (arith, first.later, second.later);
  faults = λ j differ. second.faults j differ ∙ first.faults j differ;
  elapses = λ told. elapses-then a b c (first.elapses (second.told told)) (second.elapses told);
  others = λ j differ told. before-then j a b c (first.elapses (second.told told)) (second.elapses told) (first.others j differ (second.told told)) (second.others j differ told);
}

-- What all of two lists have, all of each have.
all-left : (P : ℕ → Type 0) (xs ys : List ℕ) → All P (xs ++ ys) → All P xs
all-left P [] ys all = All-nil P
all-left P (x ∷ xs) ys all = All-cons P x xs (All-head P x (xs ++ ys) all) (all-left P xs ys (All-tail P x (xs ++ ys) all))

all-right : (P : ℕ → Type 0) (xs ys : List ℕ) → All P (xs ++ ys) → All P ys
all-right P [] ys all = all
all-right P (x ∷ xs) ys all = all-right P xs ys (All-tail P x (xs ++ ys) all)

-- Calls on one disk are calls on disks.
pub disks-one : (i : ℕ) (a b : ToldDisks) → AreCallsOn i a b → AreCallsOnDisks (i ∷ []) a b
disks-one i a b calls = record {
  told = calls.told;
  disks = calls.disks;
  later = λ j. ⊎_elim (λ e. subst (λ (n : ℕ). a.faults n ≤ b.faults n) (sym e) calls.later) (λ differ. let same = calls.faults j differ in omega (arith, same)) (cases_eq j i);
  faults = λ j none. calls.faults j (All-head (λ (n : ℕ). j ≢ n) i [] none);
  elapses = calls.elapses;
  others = λ j none. calls.others j (All-head (λ (n : ℕ). j ≢ n) i [] none);
}

-- Calls on some disks, and then on others, are calls on both.
pub disks-then : (is js : List ℕ) (a b c : ToldDisks) → AreCallsOnDisks is a b → AreCallsOnDisks js b c → AreCallsOnDisks (is ++ js) a c
disks-then is js a b c first second = record {
  told = λ told. first.told (second.told told);
  disks = second.disks ∙ first.disks;
  later = λ j. omega (arith, first.later j, second.later j);
  faults = λ j none. second.faults j (all-right (λ (n : ℕ). j ≢ n) is js none) ∙ first.faults j (all-left (λ (n : ℕ). j ≢ n) is js none);
  elapses = λ told. elapses-then a b c (first.elapses (second.told told)) (second.elapses told);
  others = λ j none told.
      before-then j a b c (first.elapses (second.told told)) (second.elapses told)
      (first.others j (all-left (λ (n : ℕ). j ≢ n) is js none) (second.told told)) (second.others j (all-right (λ (n : ℕ). j ≢ n) is js none) told);
}

-- A stop at each moment of calls, and then of more, leaves only images with P.
pub leaves-then : (P : List ℕ → Type 0) (i : ℕ) (a b c : ToldDisks) → AreCallsOn i b c → LeavesOnly P i a b → LeavesOnly P i b c → LeavesOnly P i a c
leaves-then P i a b c second of_first of_second told t image since left =
    elim (cases_lt b.moment t) [
      | inl after ↦ of_second told t image (record { from = omega (arith, after); to = since.to }) left
      | inr before ↦ of_first (second.told told) t image (record { from = since.from; to = before }) (((second.elapses told).past t i image before).0 left)
    ]

-- Images with P are images with Q.
pub leaves-weaker : (P Q : List ℕ → Type 0) (i : ℕ) (a b : ToldDisks) → (IsTrue b.telling → (image : List ℕ) → P image → Q image) → LeavesOnly P i a b → LeavesOnly Q i a b
leaves-weaker P Q i a b gives of_p told t image since left = gives told image (of_p told t image since left)

-- A disk that was read, and then read more.
pub read-then : (i : ℕ) (a b c : ToldDisks) → IsRead i a b → IsRead i b c → IsRead i a c
read-then i a b c first second = record {
  content = λ told. second.content told ∙ first.content (second.calls.told told);
  images = leaves-then (LeavesNow a i) i a b c second.calls first.images (leaves-weaker (LeavesNow b i) (LeavesNow a i) i b c was second.images);
  calls = calls-then i a b c first.calls second.calls;
}
  where
    was : IsTrue c.telling → (image : List ℕ) → LeavesNow b i image → LeavesNow a i image
    was told image left =
        let at_b : IsSince a b b.moment = record { from = (first.calls.elapses (second.calls.told told)).later; to = omega arith } in
        first.images (second.calls.told told) b.moment image at_b left

-- A disk that wasn't called.
pub read-none : (i : ℕ) (d : ToldDisks) → IsRead i d d
read-none i d = record {
  content = λ told. refl;
  images = λ told t image since left. let same : t ≡ d.moment = omega (arith, since.from, since.to) in subst (λ (n : ℕ). d.leaves n i image) same left;
  calls = calls-none i d;
}
