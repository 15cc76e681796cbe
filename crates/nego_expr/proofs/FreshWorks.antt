-- The fresh work of a deterministic diagram is a work, and stands for the diagram.
use Rattle.std.proofs.Common.{◌≡◌, ◌↔◌, ⊎_elim, ℕ, ◌+◌, ◌<◌, ◌≤◌, [], length, map, slice_get, slice_index_or, Option, Some, None, option_map, IsTrue, refl, sym, subst, ap, ◌∙◌, arith, lt-ltb}
use Rattle.std.proofs.Math.Path.{fun_ext}
use Rattle.std.proofs.lemmas.Bool.{cases_lt}
use Rattle.std.proofs.lemmas.Option.{slice_get_within, get_or_from_slice_get}
use Rattle.std.proofs.lemmas.List.{length-map, get_or-map, get_or_past}
use Rattle.std.proofs.lemmas.List.FromFn.{length-map-range_with_len, get_or-map-range_with_len}
use Rattle.std.specs.List.{All, range_with_len}
use Rattle.std.specs.Option.{option_map_or, option_to_list}
use Rattle.nego_base.specs.Members.{is_in, all_in, IsRising}
use Rattle.nego_base.proofs.Members.{all_in-members}
use Rattle.nego_model.specs.Negotiation.{IsNegotiation, IsOutcome, IsDeterministic}
use Rattle.nego_model.specs.Occurring.{opening_marking, leaves, IsSound}
use Rattle.nego_model.specs.Joining.{Relation, RelationTest, By, Runs}
use Rattle.nego_model.specs.Expression.{EachBase}
use Rattle.nego_model.specs.Diagram.{PlainOutcome, PlainDiagram, negotiation_of, parties_of, nexts_of, outcome_name, IsDiagram}
use Rattle.nego_model.specs.Summary.{final_outcomes}
use Rattle.nego_base.proofs.Members.{is_in-range_zero}
use Rattle.nego_model.proofs.diagrams.Negotiations.{outcomes_from-at}
use Rattle.nego_model.proofs.simulation.Alike.{AreAlike}
use Rattle.nego_model.proofs.simulation.Simulations.{Runs-alike_outcomes}
use Rattle.nego_expr.specs.Work.{WorkOutcome, IsWork, outcome_at, sent_to, work_parties, work_outcomes, negotiation_of_work, ByWork}
use Rattle.nego_expr.specs.Fresh.{atoms_from, outcomes_of, fresh_work}
use Rattle.nego_expr.specs.StandsFor.{HasForm, StandsFor, FreshWorksStand, HasTheRuns, FreshWorksHaveTheRuns}
use Rattle.nego_expr.proofs.Alive.{ByWork-found}
use Rattle.nego_expr.proofs.BaseNodes.{base_nodes, length-base_nodes, base_nodes-formed, Means-base_nodes, EachBase-base_nodes, AllBases-base_nodes}
use Rattle.nego_expr.proofs.FreshLists.{rises-range, one_at_most, numbers-atoms_from, parties-atoms_from, fresh_outcome, is_in_outcomes_from, numbers-outcomes_of, outcomes_of-at_atom, outcomes_of-found, All-outcomes_of}

-- the alive outcome of a number is the diagram's
pub fresh_found : (diagram : PlainDiagram) (o : ℕ) → outcome_at (fresh_work diagram) o ≡ option_map (fresh_outcome diagram o) (slice_get diagram.outcomes o)
unfolding fresh_work
fresh_found diagram o =
    subst (λ p. outcome_at (fresh_work diagram) p ≡ option_map (fresh_outcome diagram p) (slice_get diagram.outcomes o)) (let e : 0 + o ≡ o = omega arith in e)
    (outcomes_of-found diagram 0 diagram.outcomes o)

-- an atom of the fresh work has the parties that it has in the diagram
pub fresh_parties : (diagram : PlainDiagram) (n : ℕ) → work_parties (fresh_work diagram) n ≡ parties_of diagram n
unfolding fresh_work
fresh_parties diagram n =
    subst (λ m. work_parties (fresh_work diagram) m ≡ parties_of diagram n) (let e : 0 + n ≡ n = omega arith in e)
    (parties-atoms_from 0 diagram.atoms n)

-- an atom of the fresh work has the outcomes that it has in the diagram
pub fresh_outcomes : (diagram : PlainDiagram) (n : ℕ) → work_outcomes (fresh_work diagram) n ≡ (negotiation_of diagram).outcomes n
unfolding fresh_work
fresh_outcomes diagram n = outcomes_of-at_atom diagram 0 diagram.outcomes n

-- an outcome of a diagram is one of its atom
pub diagram_outcome : (diagram : PlainDiagram) → HasForm diagram → (o : ℕ) (x : PlainOutcome) → slice_get diagram.outcomes o ≡ Some x → IsOutcome (negotiation_of diagram) x.atom o
diagram_outcome diagram ok o x h = (
  is_in-range_zero x.atom (length diagram.atoms) ∙ lt-ltb x.atom (length diagram.atoms) below,
  subst (λ p. IsTrue (is_in p ((negotiation_of diagram).outcomes x.atom))) (let e : 0 + o ≡ o = omega arith in e) (is_in_outcomes_from 0 diagram.outcomes o x h),
)
  where
    below : x.atom < length diagram.atoms
    below = subst (λ y. y.atom < length diagram.atoms) (get_or_from_slice_get diagram.outcomes o x x h) (ok.own_atom o x (slice_get_within diagram.outcomes o x h))

module _ (diagram : PlainDiagram) (ok : HasForm diagram) (one : IsDeterministic (negotiation_of diagram)) where
  -- where an alive outcome sends an agent is the one next atom of the agent
  fresh_sent : (o a : ℕ) (x : PlainOutcome) → slice_get diagram.outcomes o ≡ Some x → option_to_list (sent_to (fresh_outcome diagram o x) a) ≡ nexts_of diagram o a
  fresh_sent o a x h = ⊎_elim within past (cases_lt a (length diagram.agents))
    where
      outcome : IsOutcome (negotiation_of diagram) x.atom o
      outcome = diagram_outcome diagram ok o x h

      within : a < length diagram.agents → option_to_list (sent_to (fresh_outcome diagram o x) a) ≡ nexts_of diagram o a
      within l =
          ap option_to_list (get_or-map-range_with_len (λ b. slice_get (nexts_of diagram o b) 0) 0 (length diagram.agents) a a None l (omega arith))
          ∙ one_at_most (nexts_of diagram o a) (ok.form.next_rise x.atom o a outcome) (λ m p i j. one x.atom o a m p outcome i j)

      past : length diagram.agents ≤ a → option_to_list (sent_to (fresh_outcome diagram o x) a) ≡ nexts_of diagram o a
      past l =
          ap option_to_list (get_or_past (map (λ b. slice_get (nexts_of diagram o b) 0) (range_with_len 0 (length diagram.agents))) a None
          (let k = length-map-range_with_len (λ b. slice_get (nexts_of diagram o b) 0) 0 (length diagram.agents) in omega (arith, k, l)))
          ∙ sym (⊎_elim (λ p. let k : a < length diagram.agents = ok.form.party_below x.atom a outcome.0 p in absurd (let no_more : ⊥ = omega (arith, k, l) in no_more)) (λ e. e)
          (ok.form.strangers_stay x.atom o a outcome))

  -- an agent has the next atoms in the fresh work that it has in the diagram
  fresh_next : (o a : ℕ) → (negotiation_of_work (fresh_work diagram)).next o a ≡ nexts_of diagram o a
  fresh_next o a = ap (λ found. option_map_or (λ outcome. option_to_list (sent_to outcome a)) found []) (fresh_found diagram o) ∙ go (slice_get diagram.outcomes o) refl
    where
      go : (found : Option PlainOutcome) → slice_get diagram.outcomes o ≡ found →
          option_map_or (λ outcome. option_to_list (sent_to outcome a)) (option_map (fresh_outcome diagram o) found) [] ≡ option_map_or (λ outcome. slice_index_or outcome.nexts a []) found []
      go None h = refl
      go (Some x) h = fresh_sent o a x h ∙ ap (λ found. option_map_or (λ outcome. slice_index_or outcome.nexts a []) found []) h

  -- the fresh work is the same negotiation as the diagram
  pub fresh_negotiation : negotiation_of diagram ≡ negotiation_of_work (fresh_work diagram)
  unfolding fresh_work
  fresh_negotiation = λ i. record {
    agents = length diagram.agents;
    atoms = sym (numbers-atoms_from 0 diagram.atoms) i;
    parties = fun_ext (λ n. sym (fresh_parties diagram n)) i;
    outcomes = fun_ext (λ n. sym (fresh_outcomes diagram n)) i;
    next = fun_ext (λ o. fun_ext (λ a. sym (fresh_next o a))) i;
    first = diagram.first;
    last = diagram.last;
  }

  -- an outcome of the fresh work relates what it relates in the diagram
  fresh_relation : (test : RelationTest) (n o d e : ℕ) → IsOutcome (negotiation_of diagram) n o → ByWork test (fresh_work diagram) o d e ↔ By test o d e
  unfolding fresh_work
  fresh_relation test n o d e outcome =
      let found = outcomes_from-at 0 diagram.outcomes n o (subst (λ p. IsTrue (is_in p ((negotiation_of diagram).outcomes n))) (let e : o ≡ 0 + o = omega arith in e) outcome.1) in
      let k = ByWork-found test (fresh_work diagram) o (fresh_outcome diagram o found.outcome) d e (fresh_found diagram o ∙ ap (option_map (fresh_outcome diagram o)) found.at) in
      let m = Means-base_nodes (By test) (length diagram.outcomes) o d e (slice_get_within diagram.outcomes o found.outcome found.at) in
      (λ r. m.0 (k.0 r), λ r. k.1 (m.1 r))

  -- the fresh work has the diagram's runs
  pub fresh_has_runs : HasTheRuns (fresh_work diagram) diagram
  fresh_has_runs steps = ap (λ nego. leaves nego (opening_marking nego) steps) fresh_negotiation

  -- the fresh work is a work
  pub fresh_is_work : IsWork (fresh_work diagram)
  unfolding fresh_work
  fresh_is_work = record {
    form = subst IsNegotiation fresh_negotiation ok.form;
    numbers_rise = subst IsRising (sym (numbers-outcomes_of diagram 0 diagram.outcomes)) (rises-range 0 0 (length diagram.outcomes) (omega arith));
    own_atom = each (λ y. IsTrue (is_in y.atom (map (λ atom. atom.number) (atoms_from 0 diagram.atoms))))
        (λ k x h. subst (λ ns. IsTrue (is_in x.atom ns)) (sym (numbers-atoms_from 0 diagram.atoms)) (diagram_outcome diagram ok k x h).0);
    numbers_used = each (λ y. y.number < length diagram.outcomes) (λ k x h. slice_get_within diagram.outcomes k x h);
    targets_fit = each (λ y. length y.targets ≡ length diagram.agents) (λ k x h. length-map-range_with_len (λ a. slice_get (nexts_of diagram k a) 0) 0 (length diagram.agents));
    nodes = base_nodes-formed (length diagram.outcomes);
    nodes_there = each (λ y. y.node < length (base_nodes (length diagram.outcomes)))
        (λ k x h. subst (λ n. k < n) (sym (length-base_nodes (length diagram.outcomes))) (slice_get_within diagram.outcomes k x h));
    named = length-map (final_outcomes diagram) (outcome_name diagram) ∙ ap length (sym (fresh_outcomes diagram diagram.last));
    bases_read = AllBases-base_nodes (λ o. o < length (map (λ outcome. parties_of diagram outcome.atom) diagram.outcomes)) (length diagram.outcomes)
        (λ o l. subst (λ n. o < n) (sym (length-map diagram.outcomes (λ outcome. parties_of diagram outcome.atom))) l);
    bases_within = each (λ y. EachBase (λ o. IsTrue (all_in (slice_index_or (map (λ outcome. parties_of diagram outcome.atom) diagram.outcomes) o []) (work_parties (fresh_work diagram) y.atom))) (base_nodes (length diagram.outcomes)) y.node)
        (λ k x h. EachBase-base_nodes (λ o. IsTrue (all_in (slice_index_or (map (λ outcome. parties_of diagram outcome.atom) diagram.outcomes) o []) (work_parties (fresh_work diagram) x.atom))) (length diagram.outcomes) k (slice_get_within diagram.outcomes k x h)
        (within k x h));
  }
    where
      each : (P : WorkOutcome → Type 0) → ((k : ℕ) (x : PlainOutcome) → slice_get diagram.outcomes k ≡ Some x → P (fresh_outcome diagram k x)) → All P (outcomes_of diagram 0 diagram.outcomes)
      each P h = All-outcomes_of diagram P 0 diagram.outcomes (λ k x m. subst (λ o. P (fresh_outcome diagram o x)) (let e : k ≡ 0 + k = omega arith in e) (h k x m))

      base_parties : (k : ℕ) (x : PlainOutcome) → slice_get diagram.outcomes k ≡ Some x → slice_index_or (map (λ outcome. parties_of diagram outcome.atom) diagram.outcomes) k [] ≡ parties_of diagram x.atom
      base_parties k x h =
          get_or-map (λ outcome. parties_of diagram outcome.atom) diagram.outcomes k x [] (slice_get_within diagram.outcomes k x h)
          ∙ ap (λ y. parties_of diagram y.atom) (get_or_from_slice_get diagram.outcomes k x x h)

      within : (k : ℕ) (x : PlainOutcome) → slice_get diagram.outcomes k ≡ Some x →
          IsTrue (all_in (slice_index_or (map (λ outcome. parties_of diagram outcome.atom) diagram.outcomes) k []) (work_parties (fresh_work diagram) x.atom))
      within k x h =
          subst (λ ps. IsTrue (all_in ps (work_parties (fresh_work diagram) x.atom))) (fresh_parties diagram x.atom ∙ sym (base_parties k x h))
          (all_in-members (work_parties (fresh_work diagram) x.atom) (work_parties (fresh_work diagram) x.atom) (λ _ m. m))

  -- complete runs relate the same where each outcome of an atom does
  runs_alike : (relation relation' : Relation) → ((n o d e : ℕ) → IsOutcome (negotiation_of diagram) n o → relation o d e → relation' o d e) → (f d e : ℕ) → IsTrue (is_in f (final_outcomes diagram)) →
      Runs (negotiation_of diagram) relation f d e → Runs (negotiation_of diagram) relation' f d e
  runs_alike relation relation' = Runs-alike_outcomes (negotiation_of diagram) relation (negotiation_of diagram) relation' itself ok.form one ok.form
    where
      itself : AreAlike (negotiation_of diagram) (negotiation_of diagram)
      itself = record { agents = refl; first = refl; last = refl; atoms = λ n. refl; parties = λ n h. refl; outcomes = λ n o h. refl; next = λ n o a h k. refl }

  -- the fresh work stands for the diagram
  pub fresh_stands : StandsFor (fresh_work diagram) diagram
  unfolding fresh_work
  fresh_stands = record {
    read = ok;
    is_work = fresh_is_work;
    bases = refl;
    names = refl;
    sound = (λ h. subst IsSound fresh_negotiation h, λ h. subst IsSound (sym fresh_negotiation) h);
    finals = sym (fresh_outcomes diagram diagram.last);
    runs = λ sizes test f d e local below final. (
      λ r. subst (λ nego. Runs nego (ByWork test (fresh_work diagram)) f d e) fresh_negotiation
          (runs_alike (By test) (ByWork test (fresh_work diagram)) (λ n o a b outcome h. (fresh_relation test n o a b outcome).1 h) f d e final r),
      λ r. runs_alike (ByWork test (fresh_work diagram)) (By test) (λ n o a b outcome h. (fresh_relation test n o a b outcome).0 h) f d e final
          (subst (λ nego. Runs nego (ByWork test (fresh_work diagram)) f d e) (sym fresh_negotiation) r),
    );
  }

-- the fresh work of a diagram that has form and is deterministic stands for it
pub fresh_works : FreshWorksStand
fresh_works diagram ok one = fresh_stands diagram ok one

-- it has the diagram's runs
pub fresh_works_runs : FreshWorksHaveTheRuns
fresh_works_runs diagram ok one = fresh_has_runs diagram ok one

-- a diagram has form
pub has_form : (diagram : PlainDiagram) → IsDiagram diagram → HasForm diagram
has_form diagram ok = record { form = ok.form; own_atom = ok.own_atom }
