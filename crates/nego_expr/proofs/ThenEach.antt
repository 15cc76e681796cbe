-- A node that is put before the node of each outcome of an atom, by rising number.
use Rattle.std.proofs.Common.{◌≡◌, ◌⊎◌, inl, inr, ⊎_elim, ℕ, suc, ◌+◌, ◌-◌, ◌<◌, ◌≤◌, ◌==◌, not, nat_lt, List, [], ◌∷◌, ◌++◌, length, slice_get, set, Some, None, refl, sym, subst, ap, ap₂, ◌∙◌, arith, append_assoc, append-nil, lt-ltb}
use Rattle.std.proofs.lemmas.Bool.{cond-true, cond-false, cases_eq, le-ltb, not_from_false}
use Rattle.std.proofs.lemmas.Option.{none-some, same_Some}
use Rattle.std.proofs.lemmas.List.{length-append}
use Rattle.std.proofs.lemmas.List.Elements.{All-nil, All-cons, All-head, All-tail, All-weaker, All-append, filter-append}
use Rattle.std.specs.List.{All, find}
use Rattle.nego_base.specs.Members.{RisesFrom, IsRising}
use Rattle.nego_base.proofs.Members.{rises_more}
use Rattle.nego_model.specs.Expression.{Then}
use Rattle.nego_expr.specs.Work.{WorkOutcome, PlainWork, outcomes_at}
use Rattle.nego_expr.specs.Edits.{nodes_then, then_each, with_nodes_at, with_outcome}
use Rattle.nego_expr.proofs.WorkEdits.{numbers_of, with_node}
use Rattle.nego_expr.proofs.NodesAt.{of_atom, own_of, other_of, own_first, other_first}
use Rattle.nego_expr.proofs.Places.{set-place}
use Rattle.nego_expr.proofs.Searching.{at_between}

set_between : {A : Type 0} (front rest : List A) (y z : A) → set (front ++ y ∷ rest) (length front) z ≡ front ++ z ∷ rest
set_between [] rest y z = refl
set_between (w ∷ front) rest y z = ap (◌∷◌ w) (set_between front rest y z)

-- the work in which an outcome has a new node: the node x, then its own
abbrev pub then_one : ℕ → WorkOutcome → PlainWork → PlainWork
then_one x y work = record work {
  nodes = work.nodes ++ Then x y.node ∷ [];
  outcomes = with_outcome (with_node (length work.nodes) y) work.outcomes;
}

module _ (from : PlainWork) (x n room' : ℕ) where
  -- How far it has come: of the outcomes before a place those of the atom have lower numbers and are done, the rest have
  -- no lower numbers and are to come, and then the work is the one wanted; there is room for the nodes to come, and so
  -- much more.
  pub record IsUpTo (low : ℕ) (to : PlainWork) (room : ℕ) : Type 0 where
    pub done : List WorkOutcome
    pub rest : List WorkOutcome
    pub whole : to.outcomes ≡ done ++ rest
    pub below : All (λ z. z.atom ≡ n → z.number < low) done
    pub above : IsRising (numbers_of to.outcomes) → RisesFrom low (numbers_of rest)
    pub to_come : record to { nodes = to.nodes ++ nodes_then x (of_atom n rest); outcomes = done ++ with_nodes_at n (length to.nodes) rest } ≡ then_each x n from
    pub spare : length (of_atom n rest) + room' ≡ room
    pub there : x < length to.nodes

  module _ (low : ℕ) where
    abbrev IsDone : WorkOutcome → Type 0
    IsDone z = z.atom ≡ n → z.number < low

    -- what is done isn't found
    find-behind : (zs ws : List WorkOutcome) → All IsDone zs → find (λ w. not (nat_lt w.number low)) (of_atom n zs ++ ws) ≡ find (λ w. not (nat_lt w.number low)) ws
    find-behind [] ws h = refl
    find-behind (z ∷ zs) ws h = ⊎_elim
        (λ e. ap (λ vs. find (λ w. not (nat_lt w.number low)) (vs ++ ws)) (own_of n z zs e)
        ∙ (cond-false (not (nat_lt z.number low)) (Some z) (find (λ w. not (nat_lt w.number low)) (of_atom n zs ++ ws)) (ap not (lt-ltb z.number low (All-head IsDone z zs h e)))
        ∙ find-behind zs ws (All-tail IsDone z zs h)))
        (λ e. ap (λ vs. find (λ w. not (nat_lt w.number low)) (vs ++ ws)) (other_of n z zs e) ∙ find-behind zs ws (All-tail IsDone z zs h))
        (cases_eq z.atom n)

    module _ (to : PlainWork) (rise : IsRising (numbers_of to.outcomes)) (room : ℕ) where
      -- what is found next is the first of those to come
      finds : (h : IsUpTo low to room) → find (λ w. not (nat_lt w.number low)) (outcomes_at to n) ≡ find (λ w. not (nat_lt w.number low)) (of_atom n h.rest)
      finds h = ap (find (λ w. not (nat_lt w.number low))) (ap (of_atom n) h.whole ∙ filter-append (λ z. z.atom == n) h.done h.rest) ∙ find-behind h.done (of_atom n h.rest) h.below

      -- an outcome of another atom is passed over
      abbrev other_done : (h : IsUpTo low to room) (y : WorkOutcome) (rest : List WorkOutcome) → h.rest ≡ y ∷ rest → (y.atom ≡ n → ⊥) → IsUpTo low to room
      other_done h y rest split e = record {
        done = h.done ++ y ∷ [];
        rest = rest;
        whole = h.whole ∙ (ap (λ zs. h.done ++ zs) split ∙ sym (append_assoc h.done (y ∷ []) rest));
        below = All-append IsDone h.done (y ∷ []) h.below (All-cons IsDone y [] (λ k. absurd (e k)) (All-nil IsDone));
        above = λ rise.
            let here : RisesFrom low (numbers_of (y ∷ rest)) = subst (λ zs. RisesFrom low (numbers_of zs)) split (h.above rise) in
            let le : low ≤ y.number = here.0 in
            rises_more low (y.number + 1) (numbers_of rest) (omega (arith, le)) here.1;
        to_come = ap₂ (λ ns os. record to { nodes = to.nodes ++ nodes_then x ns; outcomes = os })
            (sym (ap (of_atom n) split ∙ other_of n y rest e))
            (append_assoc h.done (y ∷ []) (with_nodes_at n (length to.nodes) rest)
            ∙ ap (λ zs. h.done ++ zs) (sym (ap (with_nodes_at n (length to.nodes)) split ∙ other_first n (length to.nodes) y rest e)))
            ∙ h.to_come;
        spare = ap (λ zs. length zs + room') (sym (ap (of_atom n) split ∙ other_of n y rest e)) ∙ h.spare;
        there = h.there;
      }

      -- none is to come, or one of the atom is next
      ahead : (h : IsUpTo low to room) → (k : IsUpTo low to room) × ((k.rest ≡ []) ⊎ ((y : WorkOutcome) × (rest : List WorkOutcome) × (k.rest ≡ y ∷ rest) × (y.atom ≡ n)))
      ahead h = go h.rest h refl
        where
          go : (rest : List WorkOutcome) (k : IsUpTo low to room) → k.rest ≡ rest → (k : IsUpTo low to room) × ((k.rest ≡ []) ⊎ ((y : WorkOutcome) × (rest : List WorkOutcome) × (k.rest ≡ y ∷ rest) × (y.atom ≡ n)))
          go [] k e = (k, inl e)
          go (y ∷ rest) k e = ⊎_elim (λ own. (k, inr (y, rest, e, own))) (λ other. go rest (other_done k y rest e other) refl) (cases_eq y.atom n)

      find-none : (h : IsUpTo low to room) → h.rest ≡ [] → find (λ w. not (nat_lt w.number low)) (outcomes_at to n) ≡ None
      find-none h e = finds h ∙ ap (λ zs. find (λ w. not (nat_lt w.number low)) (of_atom n zs)) e

      find-first : (h : IsUpTo low to room) (y : WorkOutcome) (rest : List WorkOutcome) → h.rest ≡ y ∷ rest → y.atom ≡ n → find (λ w. not (nat_lt w.number low)) (outcomes_at to n) ≡ Some y
      find-first h y rest split own =
          let here : RisesFrom low (numbers_of (y ∷ rest)) = subst (λ zs. RisesFrom low (numbers_of zs)) split (h.above rise) in
          finds h ∙ (ap (find (λ w. not (nat_lt w.number low))) (ap (of_atom n) split ∙ own_of n y rest own)
          ∙ cond-true (not (nat_lt y.number low)) (Some y) (find (λ w. not (nat_lt w.number low)) (of_atom n rest)) (not_from_false (nat_lt y.number low) (le-ltb y.number low here.0)))

      -- where one is found, it is the next to come
      next : (h : IsUpTo low to room) (y : WorkOutcome) → find (λ w. not (nat_lt w.number low)) (outcomes_at to n) ≡ Some y → (k : IsUpTo low to room) × (rest : List WorkOutcome) × (k.rest ≡ y ∷ rest) × (y.atom ≡ n)
      next h y found = let a = ahead h in ⊎_elim
          (λ e. absurd (none-some y (sym (find-none a.0 e) ∙ found)))
          (λ q.
          let same : q.0 ≡ y = same_Some q.0 y (sym (find-first a.0 q.0 q.1 q.2 q.3) ∙ found) in
          (a.0, q.1, q.2 ∙ ap (λ z. z ∷ q.1) same, ap (λ z. z.atom) (sym same) ∙ q.3))
          a.1

      -- where none is found, all are done
      pub up_to_end : (h : IsUpTo low to room) → find (λ w. not (nat_lt w.number low)) (outcomes_at to n) ≡ None → (to ≡ then_each x n from) × (room' ≡ room)
      up_to_end h none = let a = ahead h in ⊎_elim
          (λ e. (
            ap₂ (λ ns os. record to { nodes = ns; outcomes = os }) (sym (append-nil to.nodes)) (a.0.whole ∙ ap (λ zs. a.0.done ++ zs) e)
                ∙ (ap (λ zs. record to { nodes = to.nodes ++ nodes_then x (of_atom n zs); outcomes = a.0.done ++ with_nodes_at n (length to.nodes) zs }) (sym e) ∙ a.0.to_come),
            let none : length (of_atom n a.0.rest) ≡ 0 = ap (λ zs. length (of_atom n zs)) e in
                let k : length (of_atom n a.0.rest) + room' ≡ room = a.0.spare in
                omega (arith, none, k),
          ))
          (λ q. absurd (none-some q.0 (sym none ∙ find-first a.0 q.0 q.1 q.2 q.3)))
          a.1

      module _ (h : IsUpTo low to room) (y : WorkOutcome) (found : find (λ w. not (nat_lt w.number low)) (outcomes_at to n) ≡ Some y) where
        abbrev k : IsUpTo low to room
        k = (next h y found).0

        abbrev rest : List WorkOutcome
        rest = (next h y found).1

        split : k.rest ≡ y ∷ rest
        split = (next h y found).2

        own : y.atom ≡ n
        own = (next h y found).3

        as_many : length (of_atom n k.rest) ≡ suc (length (of_atom n rest))
        as_many = ap (λ zs. length (of_atom n zs)) split ∙ ap length (own_of n y rest own)

        here : RisesFrom low (numbers_of (y ∷ rest))
        here = subst (λ zs. RisesFrom low (numbers_of zs)) split (k.above rise)

        -- there is room for its node
        pub next_room : 0 < room
        next_room = let l = as_many in let m : length (of_atom n k.rest) + room' ≡ room = k.spare in omega (arith, l, m)

        -- its number isn't below the low one
        pub next_number : low ≤ y.number
        next_number = here.0

        abbrev changed : WorkOutcome
        changed = with_node (length to.nodes) y

        put : with_outcome changed to.outcomes ≡ k.done ++ changed ∷ rest
        put =
            sym (set-place (λ z. changed) 0 to.outcomes (length k.done) y rise (ap (λ zs. slice_get zs (length k.done)) (k.whole ∙ ap (λ zs. k.done ++ zs) split) ∙ at_between k.done rest y))
            ∙ (ap (λ zs. set zs (length k.done) changed) (k.whole ∙ ap (λ zs. k.done ++ zs) split) ∙ set_between k.done rest y changed)

        -- it has its node
        pub own_done : IsUpTo (y.number + 1) (then_one x y to) (room - 1)
        own_done = record {
          done = k.done ++ changed ∷ [];
          rest = rest;
          whole = put ∙ sym (append_assoc k.done (changed ∷ []) rest);
          below = All-append Done k.done (changed ∷ []) (All-weaker IsDone Done (λ z l e. let m : z.number < low = l e in let p = next_number in omega (arith, m, p)) k.done k.below) (All-cons Done changed [] (λ e. omega arith) (All-nil Done));
          above = λ later. here.1;
          to_come = ap₂ (λ ns os. record to { nodes = ns; outcomes = os })
              (append_assoc to.nodes (Then x y.node ∷ []) (nodes_then x (of_atom n rest)) ∙ ap (λ zs. to.nodes ++ nodes_then x zs) (sym (ap (of_atom n) split ∙ own_of n y rest own)))
              (append_assoc k.done (changed ∷ []) (with_nodes_at n (length (to.nodes ++ Then x y.node ∷ [])) rest)
              ∙ (ap (λ i. k.done ++ changed ∷ with_nodes_at n i rest) more
              ∙ ap (λ zs. k.done ++ zs) (sym (ap (with_nodes_at n (length to.nodes)) split ∙ own_first n (length to.nodes) y rest own))))
              ∙ k.to_come;
          spare = let l = as_many in let m : length (of_atom n k.rest) + room' ≡ room = k.spare in omega (arith, l, m);
          there = let m : x < length to.nodes = k.there in omega (arith, m, more);
        }
          where
            Done : WorkOutcome → Type 0
            Done z = z.atom ≡ n → z.number < y.number + 1

            more : length (to.nodes ++ Then x y.node ∷ []) ≡ length to.nodes + 1
            more = length-append to.nodes (Then x y.node ∷ [])

-- at the beginning all are to come
pub up_to_start : (from : PlainWork) (x n room : ℕ) → length (outcomes_at from n) ≤ room → x < length from.nodes → IsUpTo from x n (room - length (outcomes_at from n)) 0 from room
up_to_start from x n room spare there = record {
  done = [];
  rest = from.outcomes;
  whole = refl;
  below = All-nil (λ z. z.atom ≡ n → z.number < 0);
  above = λ rise. rise;
  to_come = refl;
  spare = omega (arith, spare);
  there = there;
}
