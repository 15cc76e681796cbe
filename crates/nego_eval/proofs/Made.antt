-- Rows of unions, compositions and closed stars, as sets of joint data.
use Rattle.std.proofs.Common.{◌≡◌, ◌↔◌, ◌⊎◌, ℕ, ◌<◌, true, ◌||◌, ◌==◌, List, [], ◌∷◌, ◌++◌, slice_get, Some, inl, inr, refl, sym, subst, ◌∙◌}
use Rattle.std.proofs.lemmas.Bool.{or_cases, or_left, or_right, eqb-true}
use Rattle.nego_base.specs.Members.{is_in}
use Rattle.nego_model.specs.Joining.{Relation}
use Rattle.nego_model.specs.Expression.{PlainNode, Base, Join, Then, Star, IsNodeList, IsPath, NodeMeans, Means}
use Rattle.nego_model.proofs.expressions.Nodes.{Means-at, IsPath_one, IsPath_through}
use Rattle.nego_eval.specs.Begun.{IsRowOf, IsBegun}

module _ (base : Relation) (nodes : List PlainNode) (formed : IsNodeList nodes) where
  -- what a node means is what it is made of
  means_at : (i : ℕ) (node : PlainNode) → slice_get nodes i ≡ Some node → (d e : ℕ) → Means base nodes i d e ↔ NodeMeans base (Means base nodes) node d e
  means_at i node h d e = Means-at base nodes i node d e formed h

  -- the row of an outcome
  pub base_made : (i o count x : ℕ) (row : List ℕ) → slice_get nodes i ≡ Some (Base o) → IsRowOf (base o) count x row → IsRowOf (Means base nodes i) count x row
  base_made i o count x row h made = record {
    exact = λ e. (λ m. (means_at i (Base o) h x e).1 ((made.exact e).0 m), λ w. (made.exact e).1 ((means_at i (Base o) h x e).0 w));
    below = made.below;
  }

  -- the row of a union
  pub join_made : (i a b count x : ℕ) (ones twos met : List ℕ) → slice_get nodes i ≡ Some (Join a b) → IsRowOf (Means base nodes a) count x ones → IsRowOf (Means base nodes b) count x twos →
      ((e : ℕ) → is_in e met ≡ (is_in e ones || is_in e twos)) → IsRowOf (Means base nodes i) count x met
  join_made i a b count x ones twos met h one two each = record {
    exact = λ e. (λ m. (means_at i (Join a b) h x e).1 (forth e (cases e m)), λ w. back e ((means_at i (Join a b) h x e).0 w));
    below = λ e m. elim (cases e m) [ inl k ↦ one.below e k | inr k ↦ two.below e k ];
  }
    where
      cases : (e : ℕ) → is_in e met ≡ true → (is_in e ones ≡ true) ⊎ (is_in e twos ≡ true)
      cases e m = or_cases (is_in e ones) (is_in e twos) (sym (each e) ∙ m)

      forth : (e : ℕ) → (is_in e ones ≡ true) ⊎ (is_in e twos ≡ true) → Means base nodes a x e ⊎ Means base nodes b x e
      forth e (inl k) = inl ((one.exact e).0 k)
      forth e (inr k) = inr ((two.exact e).0 k)

      back : (e : ℕ) → Means base nodes a x e ⊎ Means base nodes b x e → is_in e met ≡ true
      back e (inl k) = each e ∙ or_left (is_in e ones) (is_in e twos) ((one.exact e).1 k)
      back e (inr k) = each e ∙ or_right (is_in e ones) (is_in e twos) ((two.exact e).1 k)

  -- two steps are one of a composition
  pub then_step : (i a b x c e : ℕ) → slice_get nodes i ≡ Some (Then a b) → Means base nodes a x c → Means base nodes b c e → Means base nodes i x e
  then_step i a b x c e h one two = (means_at i (Then a b) h x e).1 (c, one, two)

  -- a row of a composition is whole where all between was followed
  pub then_made : (i a b count x : ℕ) (middle met followed : List ℕ) → slice_get nodes i ≡ Some (Then a b) → IsRowOf (Means base nodes a) count x middle →
      IsBegun (Means base nodes i) (Means base nodes b) count x met followed → ((e : ℕ) → is_in e middle ≡ true → is_in e followed ≡ true) → IsRowOf (Means base nodes i) count x met
  then_made i a b count x middle met followed h first begun done = record {
    exact = λ e. (begun.sound e, λ w. let k = (means_at i (Then a b) h x e).0 w in begun.all k.0 e (done k.0 ((first.exact k.0).1 k.1)) k.2);
    below = begun.below;
  }

  module _ (i a : ℕ) (h : slice_get nodes i ≡ Some (Star a)) where
    -- a star relates each number to itself
    pub star_none : (x : ℕ) → Means base nodes i x x
    star_none x = (means_at i (Star a) h x x).1 ([], refl)

    -- one star and then another
    pub star_through : (x c e : ℕ) → Means base nodes i x c → Means base nodes i c e → Means base nodes i x e
    star_through x c e one two =
        let p = (means_at i (Star a) h x c).0 one in
        let q = (means_at i (Star a) h c e).0 two in
        (means_at i (Star a) h x e).1 (p.0 ++ q.0, IsPath_through (Means base nodes a) p.0 q.0 x c e p.1 q.1)

    -- a star and then a step
    pub star_step : (x c e : ℕ) → Means base nodes i x c → Means base nodes a c e → Means base nodes i x e
    star_step x c e one two = star_through x c e one ((means_at i (Star a) h c e).1 (e ∷ [], IsPath_one (Means base nodes a) c e two))

    -- the start of a star is met
    pub star_begun : (count x : ℕ) (met met' followed : List ℕ) → x < count → IsBegun (Means base nodes i) (Means base nodes a) count x met followed → ((e : ℕ) → is_in e met' ≡ (x == e || is_in e met)) →
        IsBegun (Means base nodes i) (Means base nodes a) count x met' followed
    star_begun count x met met' followed small begun each = record {
      sound = λ e m. elim (cases e m) [ inl same ↦ subst (λ z. Means base nodes i x z) same (star_none x) | inr k ↦ begun.sound e k ];
      below = λ e m. elim (cases e m) [ inl same ↦ subst (λ z. z < count) same small | inr k ↦ begun.below e k ];
      all = λ y e m w. each e ∙ or_right (x == e) (is_in e met) (begun.all y e m w);
    }
      where
        cases : (e : ℕ) → is_in e met' ≡ true → (x ≡ e) ⊎ (is_in e met ≡ true)
        cases e m = elim (or_cases (x == e) (is_in e met) (sym (each e) ∙ m)) [ inl same ↦ inl (eqb-true x e same) | inr k ↦ inr k ]

    -- all of a star's row is followed at once
    pub star_jumped : (count x y : ℕ) (met followed closed met' between followed' : List ℕ) → IsBegun (Means base nodes i) (Means base nodes a) count x met followed → IsRowOf (Means base nodes i) count y closed → is_in y met ≡ true →
        ((e : ℕ) → is_in e met' ≡ (is_in e met || is_in e closed)) → ((e : ℕ) → is_in e between ≡ (is_in e followed || is_in e closed)) → ((e : ℕ) → is_in e followed' ≡ (y == e || is_in e between)) →
        IsBegun (Means base nodes i) (Means base nodes a) count x met' followed'
    star_jumped count x y met followed closed met' between followed' begun row here each each' each'' = record {
      sound = λ e m. elim (or_cases (is_in e met) (is_in e closed) (sym (each e) ∙ m)) [
        | inl k ↦ begun.sound e k
        | inr k ↦ star_through x y e (begun.sound y here) ((row.exact e).0 k)
      ];
      below = λ e m. elim (or_cases (is_in e met) (is_in e closed) (sym (each e) ∙ m)) [ inl k ↦ begun.below e k | inr k ↦ row.below e k ];
      all = λ z e m w. elim (or_cases (y == z) (is_in z between) (sym (each'' z) ∙ m)) [
        | inl same ↦ from_closed z e (subst (λ u. Means base nodes i y u) (eqb-true y z same) (star_none y)) w
        | inr k ↦ elim (or_cases (is_in z followed) (is_in z closed) (sym (each' z) ∙ k)) [
          | inl old ↦ each e ∙ or_left (is_in e met) (is_in e closed) (begun.all z e old w)
          | inr new ↦ from_closed z e ((row.exact z).0 new) w
        ]
      ];
    }
      where
        from_closed : (z e : ℕ) → Means base nodes i y z → Means base nodes a z e → is_in e met' ≡ true
        from_closed z e one w = each e ∙ or_right (is_in e met) (is_in e closed) ((row.exact e).1 (star_step y z e one w))

    -- a row of a star is whole where all that was met was followed
    pub star_made : (count x : ℕ) (met followed : List ℕ) → IsBegun (Means base nodes i) (Means base nodes a) count x met followed → is_in x met ≡ true → ((e : ℕ) → is_in e met ≡ true → is_in e followed ≡ true) →
        IsRowOf (Means base nodes i) count x met
    star_made count x met followed begun here done = record {
      exact = λ e. (begun.sound e, λ w. let p = (means_at i (Star a) h x e).0 w in along p.0 x e here p.1);
      below = begun.below;
    }
      where
        along : (path : List ℕ) (d e : ℕ) → is_in d met ≡ true → IsPath (Means base nodes a) d path e → is_in e met ≡ true
        along [] d e m p = subst (λ z. is_in z met ≡ true) p m
        along (c ∷ path) d e m p = along path c e (begun.all d c (done d m) p.0) p.1

  -- all that a star relates to a number is followed at once by the row of a composition that begins with the star
  pub then_leapt : (i s b a count x y : ℕ) (met followed whole closed met' followed' : List ℕ) → slice_get nodes i ≡ Some (Then s b) → slice_get nodes s ≡ Some (Star a) → Means base nodes s x y →
      IsBegun (Means base nodes i) (Means base nodes b) count x met followed → IsRowOf (Means base nodes i) count y whole → IsRowOf (Means base nodes s) count y closed →
      ((e : ℕ) → is_in e met' ≡ (is_in e met || is_in e whole)) → ((e : ℕ) → is_in e followed' ≡ (is_in e followed || is_in e closed)) →
      IsBegun (Means base nodes i) (Means base nodes b) count x met' followed'
  then_leapt i s b a count x y met followed whole closed met' followed' h star there begun row ends each each' = record {
    sound = λ e m. elim (or_cases (is_in e met) (is_in e whole) (sym (each e) ∙ m)) [
      | inl k ↦ begun.sound e k
      | inr k ↦ let w = (means_at i (Then s b) h y e).0 ((row.exact e).0 k) in then_step i s b x w.0 e h (star_through s a star x y w.0 there w.1) w.2
    ];
    below = λ e m. elim (or_cases (is_in e met) (is_in e whole) (sym (each e) ∙ m)) [ inl k ↦ begun.below e k | inr k ↦ row.below e k ];
    all = λ z e m w. elim (or_cases (is_in z followed) (is_in z closed) (sym (each' z) ∙ m)) [
      | inl old ↦ each e ∙ or_left (is_in e met) (is_in e whole) (begun.all z e old w)
      | inr new ↦ each e ∙ or_right (is_in e met) (is_in e whole) ((row.exact e).1 (then_step i s b y z e h ((ends.exact z).0 new) w))
    ];
  }
