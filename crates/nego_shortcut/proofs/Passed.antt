-- An outcome becomes itself and then each outcome of the atom that it enters, by rising number.
use Rattle.std.proofs.Common.{◌≡◌, ◌≢◌, ◌⊎◌, inl, inr, ⊎_elim, ℕ, suc, ◌+◌, ◌<◌, ◌≤◌, Bool, true, false, ◌==◌, cond, not, nat_lt, List, [], ◌∷◌, ◌++◌, length, map, option_map, Option, Some, None, IsTrue, refl, sym, subst, ap, ap₂, ◌∙◌, arith, append-nil, append_assoc, add-zero, eq-eqb, eqb-true, ne_eqb, lt-ltb}
use Rattle.std.proofs.lemmas.Bool.{cond-true, cond-false, cases_eq, le-ltb, not_from_false}
use Rattle.std.proofs.lemmas.Option.{none-some, same_Some}
use Rattle.std.proofs.lemmas.List.{length-append}
use Rattle.std.proofs.lemmas.List.Elements.{All-nil, All-cons, All-head, All-tail, All-append, All-weaker, All-contains, Contains-append_right, filter-append}
use Rattle.std.specs.List.{All, Contains, filter, find}
use Rattle.nego_base.specs.Members.{is_in, with_member, RisesFrom}
use Rattle.nego_model.specs.Expression.{PlainNode, Then}
use Rattle.nego_expr.specs.Work.{WorkOutcome, PlainWork, IsWork, outcome_at, outcomes_at, work_parties, sent_to}
use Rattle.nego_expr.specs.Edits.{with_outcome, nodes_then}
use Rattle.nego_expr.specs.Use.{targets_through, through, through_from, gone_through}
use Rattle.nego_expr.proofs.AddedNodes.{length-nodes_then}
use Rattle.nego_expr.proofs.NodesAt.{nodes_then-push}
use Rattle.nego_expr.proofs.WorkEdits.{numbers_of, rises-passing, All-found, found-number, there_found, found-before, found-with_outcome}
use Rattle.nego_expr.proofs.WorkForm.{OutcomeFits, fits_from_work}
use Rattle.nego_expr.proofs.EditCalls.{only_found}
use Rattle.nego_expr.proofs.RisingLists.{Contains-head, Contains-filter}
use Rattle.nego_expr.proofs.Searching.{filter-none}
use Rattle.nego_shortcut.specs.Passing.{MayPass, passed_one}
use Rattle.nego_shortcut.proofs.ShortWorks.{IsEntry, All-through_from}

module _ (from : PlainWork) (n : ℕ) (x : WorkOutcome) where
  -- one outcome more with the next number and node
  through_from-push : (o i : ℕ) (zs : List WorkOutcome) (y : WorkOutcome) →
      through_from from n x o i (zs ++ y ∷ []) ≡ through_from from n x o i zs ++ through from n x y (o + length zs) (i + length zs) ∷ []
  through_from-push o i [] y = ap₂ (λ p j. through from n x y p j ∷ []) (sym (add-zero o)) (sym (add-zero i))
  through_from-push o i (z ∷ zs) y =
      let p : o + 1 + length zs ≡ o + suc (length zs) = omega arith in
      let q : i + 1 + length zs ≡ i + suc (length zs) = omega arith in
      ap (◌∷◌ (through from n x z o i)) (through_from-push (o + 1) (i + 1) zs y
      ∙ ap₂ (λ r j. through_from from n x (o + 1) (i + 1) zs ++ through from n x y r j ∷ []) p q)

  -- the work with these nodes, numbers and outcomes
  abbrev build : List PlainNode → ℕ → List WorkOutcome → PlainWork
  build nodes numbers outcomes = record from { nodes = nodes; numbers = numbers; outcomes = outcomes }

  build_same : (nodes nodes' : List PlainNode) (numbers numbers' : ℕ) (outcomes outcomes' : List WorkOutcome) → nodes ≡ nodes' → numbers ≡ numbers' → outcomes ≡ outcomes' → build nodes numbers outcomes ≡ build nodes' numbers' outcomes'
  build_same nodes nodes' numbers numbers' outcomes outcomes' a b c = ap (λ ns. build ns numbers outcomes) a ∙ ap₂ (λ m os. build nodes' m os) b c

  -- the first is passed
  pub passed_first : (y : WorkOutcome) → passed_one from n x y true ≡ gone_through from n x (y ∷ [])
  passed_first y =
      let outcomes = with_outcome (through from n x y x.number (length from.nodes)) from.outcomes in
      build_same (from.nodes ++ Then x.node y.node ∷ []) (from.nodes ++ Then x.node y.node ∷ []) from.numbers (from.numbers + 0) outcomes (outcomes ++ []) refl (sym (add-zero from.numbers)) (sym (append-nil outcomes))

  -- another is passed
  passed_more : (d : WorkOutcome) (ds : List WorkOutcome) (y : WorkOutcome) → passed_one (gone_through from n x (d ∷ ds)) n x y false ≡ gone_through from n x (d ∷ (ds ++ y ∷ []))
  passed_more d ds y =
      let changed = with_outcome (through from n x d x.number (length from.nodes)) from.outcomes in
      let made = through_from from n x from.numbers (length from.nodes + 1) ds in
      let count : length (from.nodes ++ nodes_then x.node (d ∷ ds)) ≡ length from.nodes + suc (length ds) =
      length-append from.nodes (nodes_then x.node (d ∷ ds)) ∙ ap (λ k. length from.nodes + suc k) (length-nodes_then x.node ds) in
      let place : length (from.nodes ++ nodes_then x.node (d ∷ ds)) ≡ length from.nodes + 1 + length ds = omega (arith, count) in
      let longer : length (ds ++ y ∷ []) ≡ length ds + 1 = length-append ds (y ∷ []) in
      build_same ((from.nodes ++ nodes_then x.node (d ∷ ds)) ++ Then x.node y.node ∷ []) (from.nodes ++ nodes_then x.node (d ∷ (ds ++ y ∷ []))) (from.numbers + length ds + 1) (from.numbers + length (ds ++ y ∷ []))
      ((changed ++ made) ++ through from n x y (from.numbers + length ds) (length (from.nodes ++ nodes_then x.node (d ∷ ds))) ∷ [])
      (changed ++ through_from from n x from.numbers (length from.nodes + 1) (ds ++ y ∷ []))
      (append_assoc from.nodes (nodes_then x.node (d ∷ ds)) (Then x.node y.node ∷ []) ∙ ap (λ ns. from.nodes ++ ns) (sym (nodes_then-push x.node (d ∷ ds) y)))
      (omega (arith, longer))
      (append_assoc changed made (through from n x y (from.numbers + length ds) (length (from.nodes ++ nodes_then x.node (d ∷ ds))) ∷ [])
      ∙ ap (λ zs. changed ++ zs) (ap (λ i. made ++ through from n x y (from.numbers + length ds) i ∷ []) place ∙ sym (through_from-push from.numbers (length from.nodes + 1) ds y)))

-- ---- how far it has come

-- The atom's outcomes of numbers below one are passed, the rest are to come; the flag tells whether none was passed; there
-- is room for those to come.
pub record IsUpTo (from : PlainWork) (n : ℕ) (x : WorkOutcome) (low : ℕ) (to : PlainWork) (first : Bool) (nodes outcomes : ℕ) : Type 0 where
  pub done : List WorkOutcome
  pub rest : List WorkOutcome
  pub whole : outcomes_at from n ≡ done ++ rest
  pub made : to ≡ gone_through from n x done
  pub none_yet : ((first ≡ true) × (done ≡ [])) ⊎ ((first ≡ false) × (d : WorkOutcome) × (ds : List WorkOutcome) × (done ≡ d ∷ ds))
  pub below : All (λ z. z.number < low) done
  pub above : RisesFrom low (numbers_of rest)
  pub nodes_room : length rest ≤ nodes
  pub outcomes_room : length rest ≤ outcomes + cond first 1 0

-- the first that isn't below the low number stands behind those that are
find-behind : (low : ℕ) (done rest : List WorkOutcome) → All (λ z. z.number < low) done → find (λ z. not (nat_lt z.number low)) (done ++ rest) ≡ find (λ z. not (nat_lt z.number low)) rest
find-behind low [] rest h = refl
find-behind low (z ∷ zs) rest h =
    cond-false (not (nat_lt z.number low)) (Some z) (find (λ w. not (nat_lt w.number low)) (zs ++ rest)) (ap not (lt-ltb z.number low (All-head (λ w. w.number < low) z zs h)))
    ∙ find-behind low zs rest (All-tail (λ w. w.number < low) z zs h)

find-first : (low : ℕ) (z : WorkOutcome) (zs : List WorkOutcome) → low ≤ z.number → find (λ w. not (nat_lt w.number low)) (z ∷ zs) ≡ Some z
find-first low z zs h = cond-true (not (nat_lt z.number low)) (Some z) (find (λ w. not (nat_lt w.number low)) zs) (not_from_false (nat_lt z.number low) (le-ltb z.number low h))

module _ (from : PlainWork) (n : ℕ) (x : WorkOutcome) (ok : IsWork from) (entry : IsEntry from x n) where
  -- at the beginning all are to come
  pub up_to_start : (nodes outcomes : ℕ) → length (outcomes_at from n) ≤ nodes → length (outcomes_at from n) ≤ outcomes + 1 → IsUpTo from n x 0 from true nodes outcomes
  up_to_start nodes outcomes h k = record {
    done = [];
    rest = outcomes_at from n;
    whole = refl;
    made = refl;
    none_yet = inl (refl, refl);
    below = All-nil (λ z. z.number < 0);
    above = rises-passing (λ z. z.atom == n) 0 from.outcomes ok.numbers_rise;
    nodes_room = h;
    outcomes_room = k;
  }

  -- the atom keeps its outcomes
  kept : (ds : List WorkOutcome) → outcomes_at (gone_through from n x ds) n ≡ outcomes_at from n
  kept [] = refl
  kept (d ∷ ds) =
      filter-append (λ z. z.atom == n) (with_outcome changed from.outcomes) more
      ∙ (ap (λ zs. filter (λ z. z.atom == n) (with_outcome changed from.outcomes) ++ zs) (filter-none (λ z. z.atom == n) more none)
      ∙ (append-nil (filter (λ z. z.atom == n) (with_outcome changed from.outcomes)) ∙ same from.outcomes (only_found from.outcomes x.number x ok.numbers_rise entry.alive)))
    where
      changed : WorkOutcome
      changed = through from n x d x.number (length from.nodes)

      more : List WorkOutcome
      more = through_from from n x from.numbers (length from.nodes + 1) ds

      apart : (x.atom == n) ≡ false
      apart = ne_eqb x.atom n entry.apart

      none : All (λ z. (z.atom == n) ≡ false) more
      none = All-through_from from n x (λ z. (z.atom == n) ≡ false) from.numbers (length from.nodes + 1) ds (λ k z e. apart)

      same : (zs : List WorkOutcome) → All (λ z. z.number ≡ x.number → z ≡ x) zs → filter (λ z. z.atom == n) (with_outcome changed zs) ≡ filter (λ z. z.atom == n) zs
      same [] h = refl
      same (z ∷ zs) h = ⊎_elim
          (λ e. ap (λ w. cond (w.atom == n) (w ∷ filter (λ v. v.atom == n) (with_outcome changed zs)) (filter (λ v. v.atom == n) (with_outcome changed zs)))
          (cond-true (z.number == x.number) changed z (eq-eqb z.number x.number e))
          ∙ (cond-false (x.atom == n) (changed ∷ filter (λ v. v.atom == n) (with_outcome changed zs)) (filter (λ v. v.atom == n) (with_outcome changed zs)) apart
          ∙ (same zs (All-tail (λ w. w.number ≡ x.number → w ≡ x) z zs h)
          ∙ sym (cond-false (z.atom == n) (z ∷ filter (λ v. v.atom == n) zs) (filter (λ v. v.atom == n) zs) (ap (λ w. w.atom == n) (All-head (λ w. w.number ≡ x.number → w ≡ x) z zs h e) ∙ apart)))))
          (λ other. ap (λ w. cond (w.atom == n) (w ∷ filter (λ v. v.atom == n) (with_outcome changed zs)) (filter (λ v. v.atom == n) (with_outcome changed zs)))
          (cond-false (z.number == x.number) changed z (ne_eqb z.number x.number other))
          ∙ ap (λ ys. cond (z.atom == n) (z ∷ ys) ys) (same zs (All-tail (λ w. w.number ≡ x.number → w ≡ x) z zs h)))
          (cases_eq z.number x.number)

  -- what is found next is the first of those to come
  finds : (low : ℕ) (to : PlainWork) (first : Bool) (nodes outcomes : ℕ) → (h : IsUpTo from n x low to first nodes outcomes) →
      find (λ z. not (nat_lt z.number low)) (outcomes_at to n) ≡ find (λ z. not (nat_lt z.number low)) h.rest
  finds low to first nodes outcomes h =
      ap (find (λ z. not (nat_lt z.number low))) (ap (λ w. outcomes_at w n) h.made ∙ (kept h.done ∙ h.whole)) ∙ find-behind low h.done h.rest h.below

  pub next_of : (low : ℕ) (to : PlainWork) (first : Bool) (nodes outcomes : ℕ) → (h : IsUpTo from n x low to first nodes outcomes) → (y : WorkOutcome) → find (λ z. not (nat_lt z.number low)) (outcomes_at to n) ≡ Some y →
      (rest : List WorkOutcome) × (h.rest ≡ y ∷ rest)
  next_of low to first nodes outcomes h y found = go h.rest h.above (sym (finds low to first nodes outcomes h) ∙ found)
    where
      go : (rest : List WorkOutcome) → RisesFrom low (numbers_of rest) → find (λ z. not (nat_lt z.number low)) rest ≡ Some y → (more : List WorkOutcome) × (rest ≡ y ∷ more)
      go [] above e = absurd (none-some y e)
      go (z ∷ zs) above e = (zs, ap (λ w. w ∷ zs) (same_Some z y (sym (find-first low z zs above.0) ∙ e)))

  -- what is asked to pass an outcome of the atom
  may_pass : (ds : List WorkOutcome) (y : WorkOutcome) → Contains (outcomes_at from n) y → MayPass (gone_through from n x ds) n x y
  may_pass ds y c = go ds
    where
      at : Contains from.outcomes y × IsTrue (y.atom == n)
      at = (Contains-filter (λ z. z.atom == n) from.outcomes y).0 c

      own : y.atom ≡ n
      own = eqb-true y.atom n at.1

      fits : OutcomeFits from y
      fits = All-contains (OutcomeFits from) from.outcomes y (fits_from_work from ok) at.0

      leads : (a : ℕ) → IsTrue (is_in a (work_parties from n)) → sent_to y a ≢ None
      leads a p = fits.leads (λ e. entry.not_last (sym own ∙ e)) a (subst (λ m. IsTrue (is_in a (work_parties from m))) (sym own) p)

      at_entry : (P : WorkOutcome → Type 0) → All P from.outcomes → P x
      at_entry P h = All-found P from.outcomes x.number x h entry.alive

      there : y.node < length from.nodes
      there = All-contains (λ z. z.node < length from.nodes) from.outcomes y ok.nodes_there at.0

      go : (zs : List WorkOutcome) → MayPass (gone_through from n x zs) n x y
      go [] = record {
        left = entry.there;
        own_left = at_entry (λ z. IsTrue (is_in z.atom (map (λ atom. atom.number) from.atoms))) ok.own_atom;
        there = at_entry (λ z. z.node < length from.nodes) ok.nodes_there;
        other_there = there;
        alive = (x, entry.alive, refl);
        fit = at_entry (λ z. length z.targets ≡ from.agents) ok.targets_fit;
        leads = leads;
      }
      go (d ∷ zs) =
          let changed = through from n x d x.number (length from.nodes) in
          let longer = length-append from.nodes (nodes_then x.node (d ∷ zs)) in
          let own_node = at_entry (λ z. z.node < length from.nodes) ok.nodes_there in
          record {
            left = entry.there;
            own_left = at_entry (λ z. IsTrue (is_in z.atom (map (λ atom. atom.number) from.atoms))) ok.own_atom;
            there = omega (arith, longer, own_node);
            other_there = omega (arith, longer, there);
            alive = (
              changed,
              found-before (with_outcome changed from.outcomes) (through_from from n x from.numbers (length from.nodes + 1) zs) x.number changed
                  (found-with_outcome changed from.outcomes (there_found from.outcomes x.number x entry.alive)),
              refl,
            );
            fit = at_entry (λ z. length z.targets ≡ from.agents) ok.targets_fit;
            leads = leads;
          }

  module _ (low : ℕ) (to : PlainWork) (first : Bool) (nodes outcomes : ℕ) (h : IsUpTo from n x low to first nodes outcomes) (y : WorkOutcome) (rest : List WorkOutcome) (split : h.rest ≡ y ∷ rest) where
    pub may_pass_next : MayPass to n x y
    may_pass_next = subst (λ w. MayPass w n x y) (sym h.made)
        (may_pass h.done y (subst (λ zs. Contains zs y) (sym (h.whole ∙ ap (λ zs. h.done ++ zs) split)) (Contains-append_right h.done (y ∷ rest) y (Contains-head y rest))))

    fewer : length h.rest ≡ suc (length rest)
    fewer = ap length split

    -- there is room for its node, and for its number where it isn't the first
    pub room_next : (0 < nodes) × (first ≡ false → 0 < outcomes)
    room_next =
        let l = fewer in
        let k : length h.rest ≤ nodes = h.nodes_room in
        (omega (arith, l, k), λ e. let m : length h.rest ≤ outcomes + 0 = subst (λ b. length h.rest ≤ outcomes + cond b 1 0) e h.outcomes_room in omega (arith, l, m))

    -- its number isn't below the low one
    pub number_next : low ≤ y.number
    number_next = (subst (λ zs. RisesFrom low (numbers_of zs)) split h.above).0

    -- it is passed
    pub passed : (nodes' outcomes' : ℕ) → nodes ≤ nodes' + 1 → outcomes ≤ outcomes' + cond first 0 1 → IsUpTo from n x (y.number + 1) (passed_one to n x y first) false nodes' outcomes'
    passed nodes' outcomes' some_nodes some_outcomes = record {
      done = h.done ++ y ∷ [];
      rest = rest;
      whole = h.whole ∙ (ap (λ zs. h.done ++ zs) split ∙ sym (append_assoc h.done (y ∷ []) rest));
      made = ap (λ w. passed_one w n x y first) h.made ∙ ⊎_elim
          (λ k. ap₂ (λ b ds. passed_one (gone_through from n x ds) n x y b) k.0 k.1 ∙ (passed_first from n x y ∙ ap (λ ds. gone_through from n x (ds ++ y ∷ [])) (sym k.1)))
          (λ k. ap₂ (λ b ds. passed_one (gone_through from n x ds) n x y b) k.0 k.3 ∙ (passed_more from n x k.1 k.2 y ∙ ap (λ ds. gone_through from n x (ds ++ y ∷ [])) (sym k.3)))
          h.none_yet;
      none_yet = ⊎_elim
          (λ k. inr (refl, y, [], ap (λ ds. ds ++ y ∷ []) k.1))
          (λ k. inr (refl, k.1, k.2 ++ y ∷ [], ap (λ ds. ds ++ y ∷ []) k.3))
          h.none_yet;
      below = All-append (λ z. z.number < y.number + 1) h.done (y ∷ [])
          (All-weaker (λ z. z.number < low) (λ z. z.number < y.number + 1) (λ z l. let k : z.number < low = l in omega (arith, k, number_next)) h.done h.below)
          (All-cons (λ z. z.number < y.number + 1) y [] (omega arith) (All-nil (λ z. z.number < y.number + 1)));
      above = (subst (λ zs. RisesFrom low (numbers_of zs)) split h.above).1;
      nodes_room = let k : length h.rest ≤ nodes = h.nodes_room in let l = fewer in omega (arith, l, k, some_nodes);
      outcomes_room = room first h.outcomes_room some_outcomes;
    }
      where
        room : (b : Bool) → length h.rest ≤ outcomes + cond b 1 0 → outcomes ≤ outcomes' + cond b 0 1 → length rest ≤ outcomes' + 0
        room true p q = let l : length h.rest ≤ outcomes + 1 = p in let m : outcomes ≤ outcomes' + 0 = q in let k = fewer in omega (arith, k, l, m)
        room false p q = let l : length h.rest ≤ outcomes + 0 = p in let m : outcomes ≤ outcomes' + 1 = q in let k = fewer in omega (arith, k, l, m)

  -- where no more is found all are passed
  pub up_to_end : (low : ℕ) (to : PlainWork) (first : Bool) (nodes outcomes : ℕ) → IsUpTo from n x low to first nodes outcomes → find (λ z. not (nat_lt z.number low)) (outcomes_at to n) ≡ None →
      to ≡ gone_through from n x (outcomes_at from n)
  up_to_end low to first nodes outcomes h none = go h.rest h.above (sym (finds low to first nodes outcomes h) ∙ none) refl
    where
      go : (rest : List WorkOutcome) → RisesFrom low (numbers_of rest) → find (λ z. not (nat_lt z.number low)) rest ≡ None → h.rest ≡ rest → to ≡ gone_through from n x (outcomes_at from n)
      go [] above e is = h.made ∙ ap (gone_through from n x) (sym (h.whole ∙ (ap (λ zs. h.done ++ zs) is ∙ append-nil h.done)))
      go (z ∷ zs) above e is = absurd (none-some z (sym e ∙ find-first low z zs above.0))

-- ---- the edits of a pass

module _ (work : PlainWork) (n : ℕ) (x y z : WorkOutcome) (found : outcome_at work x.number ≡ Some z) (same : z.atom ≡ x.atom) (added : PlainWork) (adds : added ≡ record work { nodes = work.nodes ++ Then x.node y.node ∷ [] }) where
  -- what is set there is the outcome and then the other
  pub set_passed : (new : PlainWork) (node : ℕ) (targets : List (Option ℕ)) (passed : List ℕ) → node ≡ length work.nodes → targets ≡ targets_through work n x y → passed ≡ with_member n x.passed →
      Some new ≡ option_map (λ w. record added { outcomes = with_outcome (record w { targets = targets; node = node; passed = passed }) added.outcomes }) (outcome_at added x.number) → new ≡ passed_one work n x y true
  set_passed new node targets passed i ts ps sets =
      same_Some new (set added z.number z.atom targets node passed)
      (sets ∙ ap (option_map (λ w. record added { outcomes = with_outcome (record w { targets = targets; node = node; passed = passed }) added.outcomes })) (ap (λ w. outcome_at w x.number) adds ∙ found))
      ∙ (ap (λ w. set w z.number z.atom targets node passed) adds
      ∙ (ap₂ (λ o m. set (record work { nodes = work.nodes ++ Then x.node y.node ∷ [] }) o m targets node passed) (found-number work.outcomes x.number z found) same
      ∙ (ap₂ (λ t j. set (record work { nodes = work.nodes ++ Then x.node y.node ∷ [] }) x.number x.atom t j passed) ts i
      ∙ ap (set (record work { nodes = work.nodes ++ Then x.node y.node ∷ [] }) x.number x.atom (targets_through work n x y) (length work.nodes)) ps)))
    where
      set : PlainWork → ℕ → ℕ → List (Option ℕ) → ℕ → List ℕ → PlainWork
      set w o m ts j ps = record w { outcomes = with_outcome (record { number = o; atom = m; targets = ts; node = j; passed = ps }) w.outcomes }
