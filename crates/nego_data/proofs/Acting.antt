-- Laws of relations that read and change the values of some agents alone.
use Rattle.std.proofs.Common.{◌≡◌, ◌⊎◌, ◌↔◌, ⊎_elim, inl, inr, ℕ, zero, suc, ◌+◌, ◌<◌, cond, List, [], ◌∷◌, length, slice_index, IsTrue, refl, sym, subst, ap, ◌∙◌, arith, le_of_suc-le-suc}
use Rattle.std.proofs.lemmas.Bool.{cases_Bool, cond-true, cond-false, false_from_ne_true}
use Rattle.nego_base.specs.Members.{is_in}
use Rattle.nego_base.proofs.Members.{in_or_not}
use Rattle.nego_data.specs.Data.{data_count, split, joint}
use Rattle.nego_data.specs.Locality.{AgreeOn, AgreeOff, ActsOn}
use Rattle.nego_data.proofs.JointData.{AreValues, split-below, joint-below, split-joint}

-- the values from agent a on, of the agents from one list and of all others from another
mix_from : ℕ → List ℕ → List ℕ → List ℕ → List ℕ → List ℕ
mix_from a [] agents inside outside = []
mix_from a (size ∷ sizes) agents inside outside = cond (is_in a agents) (slice_index inside a) (slice_index outside a) ∷ mix_from (a + 1) sizes agents inside outside

length-mix_from : (n : ℕ) (sizes agents inside outside : List ℕ) → length (mix_from n sizes agents inside outside) ≡ length sizes
unfolding mix_from
length-mix_from n [] agents inside outside = refl
length-mix_from n (size ∷ sizes) agents inside outside = ap suc (length-mix_from (n + 1) sizes agents inside outside)

at-mix_from : (n : ℕ) (sizes agents inside outside : List ℕ) (a : ℕ) → a < length sizes →
    slice_index (mix_from n sizes agents inside outside) a ≡ cond (is_in (n + a) agents) (slice_index inside (n + a)) (slice_index outside (n + a))
unfolding mix_from
at-mix_from n [] agents inside outside a h = absurd (let no_more : ⊥ = omega (arith, h) in no_more)
at-mix_from n (size ∷ sizes) agents inside outside zero h =
    let e : n ≡ n + 0 = omega arith in ap (λ m. cond (is_in m agents) (slice_index inside m) (slice_index outside m)) e
at-mix_from n (size ∷ sizes) agents inside outside (suc a) h =
    let e : n + 1 + a ≡ n + suc a = omega arith in
    at-mix_from (n + 1) sizes agents inside outside a (le_of_suc-le-suc h) ∙ ap (λ m. cond (is_in m agents) (slice_index inside m) (slice_index outside m)) e

-- the joint data in which the agents have the values of `inside`, and all others those of `outside`
pub mixed : List ℕ → List ℕ → ℕ → ℕ → ℕ
mixed sizes agents inside outside = joint sizes (mix_from 0 sizes agents (split sizes inside) (split sizes outside))

module _ (sizes agents : List ℕ) (inside outside : ℕ) (h : inside < data_count sizes) (k : outside < data_count sizes) where
  mix : List ℕ
  mix = mix_from 0 sizes agents (split sizes inside) (split sizes outside)

  at-mix : (a : ℕ) → a < length sizes → slice_index mix a ≡ cond (is_in a agents) (slice_index (split sizes inside) a) (slice_index (split sizes outside) a)
  unfolding mix
  at-mix a l =
      let e : 0 + a ≡ a = omega arith in
      subst (λ b. slice_index (mix_from 0 sizes agents (split sizes inside) (split sizes outside)) a ≡ cond (is_in b agents) (slice_index (split sizes inside) b) (slice_index (split sizes outside) b)) e
      (at-mix_from 0 sizes agents (split sizes inside) (split sizes outside) a l)

  mix-values : AreValues sizes mix
  unfolding mix
  mix-values = record {
    as_many = length-mix_from 0 sizes agents (split sizes inside) (split sizes outside);
    below = λ a l. ⊎_elim
        (λ e. subst (λ v. v < slice_index sizes a) (sym (at-mix a l ∙ cond-true (is_in a agents) (slice_index (split sizes inside) a) (slice_index (split sizes outside) a) e)) (split-below sizes inside a h l))
        (λ e. subst (λ v. v < slice_index sizes a) (sym (at-mix a l ∙ cond-false (is_in a agents) (slice_index (split sizes inside) a) (slice_index (split sizes outside) a) e)) (split-below sizes outside a k l))
        (cases_Bool (is_in a agents));
  }

  -- mixed data are joint data
  pub mixed-below : mixed sizes agents inside outside < data_count sizes
  unfolding mixed mix
  mixed-below = joint-below sizes mix mix-values

  split-mixed : split sizes (mixed sizes agents inside outside) ≡ mix
  unfolding mixed mix
  split-mixed = split-joint sizes mix mix-values

  -- the agents have their values in mixed data
  pub mixed-agrees_on : AgreeOn sizes agents inside (mixed sizes agents inside outside)
  mixed-agrees_on a l p =
      sym (ap (λ v. slice_index v a) split-mixed ∙ (at-mix a l ∙ cond-true (is_in a agents) (slice_index (split sizes inside) a) (slice_index (split sizes outside) a) p))

  -- all others have theirs
  pub mixed-agrees_off : AgreeOff sizes agents outside (mixed sizes agents inside outside)
  mixed-agrees_off a l p =
      sym (ap (λ v. slice_index v a) split-mixed ∙ (at-mix a l ∙ cond-false (is_in a agents) (slice_index (split sizes inside) a) (slice_index (split sizes outside) a) (false_from_ne_true (is_in a agents) p)))

-- two relations that relate the same act on the same agents
pub ActsOn-same : (sizes agents : List ℕ) (one two : ℕ → ℕ → Type 0) → ((d e : ℕ) → one d e ↔ two d e) → ActsOn sizes agents one → ActsOn sizes agents two
ActsOn-same sizes agents one two h acts = record {
  stays = λ d e l r. acts.stays d e l ((h d e).1 r);
  changes = λ d e l r. acts.changes d e l ((h d e).1 r);
  reads = λ d e d' e' l r l' m' on on' off. (h d' e').0 (acts.reads d e d' e' l ((h d e).1 r) l' m' on on' off);
}

-- what acts on some agents acts on more
pub ActsOn-more : (sizes few more : List ℕ) (related : ℕ → ℕ → Type 0) → ((a : ℕ) → IsTrue (is_in a few) → IsTrue (is_in a more)) → ActsOn sizes few related → ActsOn sizes more related
ActsOn-more sizes few more related h acts = record {
  stays = acts.stays;
  changes = λ d e l r a k other. acts.changes d e l r a k (λ p. other (h a p));
  reads = λ d e d' e' l r l' m' on on' off. acts.reads d e d' e' l r l' m'
      (λ a k p. on a k (h a p)) (λ a k p. on' a k (h a p))
      (λ a k other. ⊎_elim (λ p. sym (on a k p) ∙ (acts.changes d e l r a k other ∙ on' a k p)) (λ p. off a k p) (in_or_not a more));
}

module _ (sizes agents : List ℕ) where
  -- what relates nothing acts on any agents
  pub ActsOn-nothing : ActsOn sizes agents (λ d e. ⊥)
  ActsOn-nothing = record {
    stays = λ d e l r. absurd r;
    changes = λ d e l r. absurd r;
    reads = λ d e d' e' l r l' m' on on' off. r;
  }

  -- one relation or another
  pub ActsOn-join : (one two : ℕ → ℕ → Type 0) → ActsOn sizes agents one → ActsOn sizes agents two → ActsOn sizes agents (λ d e. one d e ⊎ two d e)
  ActsOn-join one two p q = record {
    stays = λ d e l r. ⊎_elim (λ x. p.stays d e l x) (λ x. q.stays d e l x) r;
    changes = λ d e l r. ⊎_elim (λ x. p.changes d e l x) (λ x. q.changes d e l x) r;
    reads = λ d e d' e' l r l' m' on on' off. ⊎_elim (λ x. inl (p.reads d e d' e' l x l' m' on on' off)) (λ x. inr (q.reads d e d' e' l x l' m' on on' off)) r;
  }

  -- one relation and then another
  pub ActsOn-then : (one two : ℕ → ℕ → Type 0) → ActsOn sizes agents one → ActsOn sizes agents two → ActsOn sizes agents (λ d e. (c : ℕ) × one d c × two c e)
  ActsOn-then one two p q = record {
    stays = λ d e l r. q.stays r.0 e (p.stays d r.0 l r.1) r.2;
    changes = λ d e l r a k other. p.changes d r.0 l r.1 a k other ∙ q.changes r.0 e (p.stays d r.0 l r.1) r.2 a k other;
    reads = λ d e d' e' l r l' m' on on' off.
        let c = r.0 in
        let below = p.stays d c l r.1 in
        let inside = mixed-agrees_on sizes agents c d' below l' in
        let outside = mixed-agrees_off sizes agents c d' below l' in
        let there = mixed-below sizes agents c d' below l' in (
          mixed sizes agents c d',
          p.reads d c d' (mixed sizes agents c d') l r.1 l' there on inside outside,
          q.reads c e (mixed sizes agents c d') e' below r.2 there m' inside on' (λ a k other. sym (outside a k other) ∙ off a k other),
        );
  }

-- relations that act on agents apart may change places
pub acts_commute : (sizes first second : List ℕ) (one two : ℕ → ℕ → Type 0) → ActsOn sizes first one → ActsOn sizes second two → ((a : ℕ) → IsTrue (is_in a first) → IsTrue (is_in a second) → ⊥) →
    (d c e : ℕ) → d < data_count sizes → one d c → two c e → (c' : ℕ) × two d c' × one c' e
acts_commute sizes first second one two p q apart d c e l r s = (
  c',
  q.reads c e d c' below s l there (λ a k h. sym (p.changes d c l r a k (λ x. apart a x h))) inside outside,
  p.reads d c c' e l r there end
      (λ a k h. outside a k (λ x. apart a h x))
      (λ a k h. q.changes c e below s a k (λ x. apart a h x))
      (λ a k other. ⊎_elim (λ h. sym (inside a k h)) (λ h. sym (outside a k h) ∙ (p.changes d c l r a k other ∙ q.changes c e below s a k h)) (in_or_not a second)),
)
  where
    below : c < data_count sizes
    below = p.stays d c l r

    end : e < data_count sizes
    end = q.stays c e below s

    c' : ℕ
    c' = mixed sizes second e d

    there : c' < data_count sizes
    there = mixed-below sizes second e d end l

    inside : AgreeOn sizes second e c'
    inside = mixed-agrees_on sizes second e d end l

    outside : AgreeOff sizes second d c'
    outside = mixed-agrees_off sizes second e d end l
