-- The words that stand twice: there are none where all is named once, and only there; and they stand in the order of the
-- text.
use Rattle.std.proofs.Common.{◌≡◌, ◌≢◌, ℕ, ◌||◌, ◌&&◌, Bool, true, false, List, [], ◌∷◌, ◌++◌, map, take, get_or, refl, sym, ap, ◌∙◌}
use Rattle.std.proofs.lemmas.Bool.{false≢true, false_from_ne_true}
use Rattle.std.proofs.lemmas.Bool.Decides.{not_from_Decides}
use Rattle.std.proofs.lemmas.List.Elements.{All-nil, All-cons, All-head, All-tail, All-map, All-append, All-weaker}
use Rattle.std.proofs.lemmas.List.Folds.{list_any_none}
use Rattle.std.proofs.lemmas.Slice.Eq.{bytes_eq-Decides}
use Rattle.std.specs.List.{All, AllPairs, list_any, flat_map}
use Rattle.std.specs.Str.{bytes_eq}
use Rattle.nego_base.specs.declared.line.Word.{Word}
use Rattle.nego_base.proofs.BoolLaws.{neither, any_none, not_both, both_false}
use Rattle.nego_base.proofs.Firsts.{again_none, none_again}
use Rattle.nego_base.proofs.ListLaws.{All-front, All-back, All-unmap, All-each, All-flat}
use Rattle.nego_base.proofs.PairLaws.{AllPairs-nil, AllPairs-cons, AllPairs-append, AllPairs-head, AllPairs-tail, AllPairs-front, AllPairs-back, AllPairs-between, AllPairs-map, AllPairs-unmap}
use Rattle.nego_reader.specs.declared.parsed.Parsed.{Parsed}
use Rattle.nego_reader.specs.declared.parsed.PAgent.{PAgent}
use Rattle.nego_reader.specs.declared.parsed.PAtom.{PAtom}
use Rattle.nego_reader.specs.declared.parsed.POut.{POut}
use Rattle.nego_reader.specs.declared.parsed.PNext.{PNext}
use Rattle.nego_reader.specs.declared.parsed.PCase.{PCase}
use Rattle.nego_reader.specs.declared.parsed.PSet.{PSet}
use Rattle.nego_reader.specs.Content.{AtomContent, OutContent, content_of, agent_content, atom_content, out_content, next_content, case_content, set_content, texts}
use Rattle.nego_shape.specs.Faults.{stands_in, word_if, numbered, again, repeated, is_led, sent_again, twice_in_out, twice_in_atom, twice_words}
use Rattle.nego_shape.specs.Shaped.{AreDifferent, AreNamedOnce, assigned_names, sent_names}
use Rattle.nego_shape.proofs.DeclaredListed.{outs, all_placed, all_read}
use Rattle.nego_shape.proofs.Numbered.{head, head-none, head-numbered, empty_parts, empty_both, clear-flat, empty-flat, clear-numbered}

-- ---- items of which none comes again

module _ {A : Type 0} (g : List A → A → List Word) (R : A → A → Type 0) where
  pub clear_pairs : ((before : List A) (x : A) → g before x ≡ [] → All (λ y. R y x) before) → (xs : List A) → numbered (λ i x. g (take i xs) x) 0 xs ≡ [] → AllPairs R xs
  clear_pairs each xs h =
      again_none (λ before x. head (g before x)) R (λ before x none. each before x (head-none (g before x) none)) xs (sym (head-numbered (λ i x. g (take i xs) x) 0 xs) ∙ ap head h)

  pub empty_pairs : (P : A → Type 0) → ((before : List A) (x : A) → All (λ y. R y x) before → P x → g before x ≡ []) → (xs : List A) → AllPairs R xs → All P xs → numbered (λ i x. g (take i xs) x) 0 xs ≡ []
  empty_pairs P each xs pairs all =
      head-none (numbered (λ i x. g (take i xs) x) 0 xs) (head-numbered (λ i x. g (take i xs) x) 0 xs ∙ none_again (λ before x. head (g before x)) R P (λ before x k q. ap head (each before x k q)) xs pairs all)

no_word : (test : Bool) (word : Word) → word_if test word ≡ [] → test ≡ false
no_word true word h = absurd cc
no_word false word h = refl

not_given : (test : Bool) (word : Word) → test ≡ false → word_if test word ≡ []
not_given test word h = rw h refl

-- words with other bytes
differ : (one two : Word) → bytes_eq two.text one.text ≡ false → two.text ≢ one.text
differ one two h = not_from_Decides (bytes_eq two.text one.text) (bytes_eq-Decides two.text one.text) h

apart : (one two : Word) → two.text ≢ one.text → bytes_eq two.text one.text ≡ false
apart one two h = false_from_ne_true (bytes_eq two.text one.text) (λ t. h ((bytes_eq-Decides two.text one.text).0 t))

module _ {A : Type 0} (name : A → Word) where
  abbrev is_same : A → A → Bool
  is_same x y = bytes_eq (name y).text (name x).text

  not_before : (before : List A) (x : A) → again name before x ≡ [] → All (λ y. (name y).text ≢ (name x).text) before
  not_before before x h =
      All-weaker (λ y. is_same x y ≡ false) (λ y. (name y).text ≢ (name x).text) (λ y e. differ (name x) (name y) e) before (any_none (is_same x) before (no_word (list_any (is_same x) before) (name x) h))

  none_before : (before : List A) (x : A) → All (λ y. (name y).text ≢ (name x).text) before → again name before x ≡ []
  none_before before x h =
      not_given (list_any (is_same x) before) (name x) (list_any_none (is_same x) before (All-weaker (λ y. (name y).text ≢ (name x).text) (λ y. is_same x y ≡ false) (λ y e. apart (name x) (name y) e) before h))

  once : (xs : List A) → repeated name xs ≡ [] → AllPairs (λ x y. (name x).text ≢ (name y).text) xs
  once xs h = clear_pairs (again name) (λ x y. (name x).text ≢ (name y).text) not_before xs h

  none_twice : (xs : List A) → AllPairs (λ x y. (name x).text ≢ (name y).text) xs → repeated name xs ≡ []
  none_twice xs h = empty_pairs (again name) (λ x y. (name x).text ≢ (name y).text) (λ x. Unit {0}) (λ before x k u. none_before before x k) xs h (λ k d l. tt)

abbrev Differ : List ℕ → List ℕ → Type 0
Differ one two = one ≢ two

-- names of contents differ, where those of the words do
module _ {A B : Type 0} (content : A → B) (text : B → List ℕ) (xs : List A) where
  of_contents : AllPairs (λ x y. text (content x) ≢ text (content y)) xs → AreDifferent (map text (map content xs))
  of_contents h = AllPairs-map Differ text (map content xs) (AllPairs-map (λ x y. text x ≢ text y) content xs h)

  to_contents : AreDifferent (map text (map content xs)) → AllPairs (λ x y. text (content x) ≢ text (content y)) xs
  to_contents h = AllPairs-unmap (λ x y. text x ≢ text y) content xs (AllPairs-unmap Differ text (map content xs) h)

-- ---- agents on next lines

-- the agents on two next lines for one atom differ
abbrev Apart : PNext → PNext → Type 0
Apart one two = bytes_eq one.atom.text two.atom.text ≡ true → All (λ x. All (λ y. x.text ≢ y.text) two.agents) one.agents

-- the agents on a next line differ
abbrev IsOnce : PNext → Type 0
IsOnce next = AllPairs (λ (x y : Word). x.text ≢ y.text) next.agents

-- an agent who stands on one of the lines for the atom
abbrev leads : Word → Word → PNext → Bool
leads atom agent next = bytes_eq next.atom.text atom.text && stands_in next.agents agent

module _ (earlier : List PNext) (next : PNext) where
  abbrev came : List Word → Word → List Word
  came before agent = word_if (stands_in before agent || is_led earlier next.atom agent) agent

  neither_came : (before : List Word) (agent : Word) → came before agent ≡ [] → (stands_in before agent ≡ false) × (is_led earlier next.atom agent ≡ false)
  neither_came before agent e = neither (stands_in before agent) (is_led earlier next.atom agent) (no_word (stands_in before agent || is_led earlier next.atom agent) agent e)

  next_apart : sent_again earlier next ≡ [] → All (λ one. Apart one next) earlier
  next_apart h k d l is i x inside j y within =
      let one = get_or earlier k d in
      let agent = get_or next.agents j y in
      let none = clear-numbered (λ m word. came (take m next.agents) word) (λ word. is_led earlier next.atom word ≡ false) (λ m word e. (neither_came (take m next.agents) word e).1) 0 next.agents h j y within in
      let away = not_both (bytes_eq one.atom.text next.atom.text) (stands_in one.agents agent) (any_none (leads next.atom agent) earlier none k d l) is in
      differ agent (get_or one.agents i x) (any_none (λ other. bytes_eq other.text agent.text) one.agents away i x inside)

  next_once : sent_again earlier next ≡ [] → IsOnce next
  next_once h =
      clear_pairs came (λ x y. x.text ≢ y.text)
      (λ before word e. All-weaker (λ y. bytes_eq y.text word.text ≡ false) (λ y. y.text ≢ word.text) (λ y f. differ word y f) before (any_none (λ other. bytes_eq other.text word.text) before (neither_came before word e).0))
      next.agents h

  none_on_next : All (λ one. Apart one next) earlier → IsOnce next → sent_again earlier next ≡ []
  none_on_next h once =
      empty_pairs came (λ x y. x.text ≢ y.text) (λ y. is_led earlier next.atom y ≡ false)
      (λ before y k led. not_given (stands_in before y || is_led earlier next.atom y) y (either_false (stands_in before y) (is_led earlier next.atom y)
      (list_any_none (λ other. bytes_eq other.text y.text) before (All-weaker (λ x. x.text ≢ y.text) (λ x. bytes_eq x.text y.text ≡ false) (λ x e. apart y x e) before k)) led))
      next.agents once (λ j y within.
      let agent = get_or next.agents j y in
      list_any_none (leads next.atom agent) earlier (λ k d l.
      let one = get_or earlier k d in
      both_false (bytes_eq one.atom.text next.atom.text) (stands_in one.agents agent) (λ is. list_any_none (λ other. bytes_eq other.text agent.text) one.agents (λ i x inside. apart agent (get_or one.agents i x) (h k d l is i x inside j y within)))))
    where
      either_false : (s t : Bool) → s ≡ false → t ≡ false → (s || t) ≡ false
      either_false s t a b = rw (a, b) refl

-- the agents on the next line differ from this one, where it is for this atom
abbrev Others : List ℕ → List ℕ → PNext → Type 0
Others atom x next = bytes_eq next.atom.text atom ≡ true → All (λ (y : Word). x ≢ y.text) next.agents

module _ (atom : List ℕ) where
  abbrev sent : List PNext → List (List ℕ)
  sent nexts = sent_names (map next_content nexts) atom

  cross : (x : List ℕ) (nexts : List PNext) → All (Others atom x) nexts → All (Differ x) (sent nexts)
  cross x [] h = All-nil (Differ x)
  cross x (m ∷ ms) h = go (bytes_eq m.atom.text atom) refl (cross x ms (All-tail (Others atom x) m ms h))
    where
      go : (b : Bool) → bytes_eq m.atom.text atom ≡ b → All (Differ x) (sent ms) → All (Differ x) (sent (m ∷ ms))
      go true e more = rw e (All-append (Differ x) (texts m.agents) (sent ms) (All-map (Differ x) (λ (w : Word). w.text) m.agents (All-head (Others atom x) m ms h e)) more)
      go false e more = rw e more

  others : (x : List ℕ) (nexts : List PNext) → All (Differ x) (sent nexts) → All (Others atom x) nexts
  others x [] h = All-nil (Others atom x)
  others x (m ∷ ms) h = go (bytes_eq m.atom.text atom) refl (others x ms)
    where
      go : (b : Bool) → bytes_eq m.atom.text atom ≡ b → (All (Differ x) (sent ms) → All (Others atom x) ms) → All (Others atom x) (m ∷ ms)
      go true e more =
          let k : All (Differ x) (texts m.agents ++ sent ms) = rw e at h in
          All-cons (Others atom x) m ms (λ t. All-unmap (Differ x) (λ (w : Word). w.text) m.agents (All-front (Differ x) (texts m.agents) (sent ms) k)) (more (All-back (Differ x) (texts m.agents) (sent ms) k))
      go false e more =
          let k : All (Differ x) (sent ms) = rw e at h in
          All-cons (Others atom x) m ms (λ t. absurd (false≢true (sym e ∙ t))) (more k)

  sent_once : (nexts : List PNext) → AllPairs Apart nexts → All IsOnce nexts → AreDifferent (sent nexts)
  sent_once [] apart each = AllPairs-nil Differ
  sent_once (n ∷ ns) apart each = go (bytes_eq n.atom.text atom) refl (sent_once ns (AllPairs-tail Apart n ns apart) (All-tail IsOnce n ns each))
    where
      go : (b : Bool) → bytes_eq n.atom.text atom ≡ b → AreDifferent (sent ns) → AreDifferent (sent (n ∷ ns))
      go true e more = rw e (AllPairs-append Differ (texts n.agents) (sent ns) (AllPairs-map Differ (λ (w : Word). w.text) n.agents (All-head IsOnce n ns each)) more
          (All-map (λ x. All (Differ x) (sent ns)) (λ (w : Word). w.text) n.agents
          (λ i x inside. cross (get_or n.agents i x).text ns
          (λ k d l is. let m = get_or ns k d in
          let one = (bytes_eq-Decides n.atom.text m.atom.text).1 ((bytes_eq-Decides n.atom.text atom).0 e ∙ sym ((bytes_eq-Decides m.atom.text atom).0 is)) in
          AllPairs-head Apart n ns apart k d l one i x inside))))
      go false e more = rw e more

-- the agents on the next lines for each atom differ
abbrev AreSentOnce : List PNext → Type 0
AreSentOnce nexts = (atom : List ℕ) → AreDifferent (sent atom nexts)

sent_rest : (n : PNext) (ns : List PNext) → AreSentOnce (n ∷ ns) → AreSentOnce ns
sent_rest n ns h atom = go (bytes_eq n.atom.text atom) refl (h atom)
  where
    go : (b : Bool) → bytes_eq n.atom.text atom ≡ b → AreDifferent (sent atom (n ∷ ns)) → AreDifferent (sent atom ns)
    go true e k =
        let all : AreDifferent (texts n.agents ++ sent atom ns) = rw e at k in
        AllPairs-back Differ (texts n.agents) (sent atom ns) all
    go false e k = rw e at k

-- the agents on a next line, and then those on later ones for its atom
own_first : (n : PNext) (ns : List PNext) → AreSentOnce (n ∷ ns) → AreDifferent (texts n.agents ++ sent n.atom.text ns)
own_first n ns h =
    let e : bytes_eq n.atom.text n.atom.text ≡ true = (bytes_eq-Decides n.atom.text n.atom.text).1 refl in
    let all = h n.atom.text in
    rw e at all

first_apart : (n : PNext) (ns : List PNext) → AreSentOnce (n ∷ ns) → All (Apart n) ns
first_apart n ns h k d l is i x inside j y within =
    let m = get_or ns k d in
    let between = AllPairs-between Differ (texts n.agents) (sent n.atom.text ns) (own_first n ns h) in
    let mine = All-unmap (λ name. All (Differ name) (sent n.atom.text ns)) (λ (w : Word). w.text) n.agents between i x inside in
    others n.atom.text (get_or n.agents i x).text ns mine k d l ((bytes_eq-Decides m.atom.text n.atom.text).1 (sym ((bytes_eq-Decides n.atom.text m.atom.text).0 is))) j y within

all_apart : (nexts : List PNext) → AreSentOnce nexts → AllPairs Apart nexts
all_apart [] h = AllPairs-nil Apart
all_apart (n ∷ ns) h = AllPairs-cons Apart n ns (first_apart n ns h) (all_apart ns (sent_rest n ns h))

all_once : (nexts : List PNext) → AreSentOnce nexts → All IsOnce nexts
all_once [] h = All-nil IsOnce
all_once (n ∷ ns) h =
    All-cons IsOnce n ns (AllPairs-unmap Differ (λ (w : Word). w.text) n.agents (AllPairs-front Differ (texts n.agents) (sent n.atom.text ns) (own_first n ns h))) (all_once ns (sent_rest n ns h))

-- ---- outcomes and atoms

abbrev pub in_case : PCase → List Word
in_case case = repeated (λ (set : PSet). set.agent) case.sets

abbrev pub on_nexts : List PNext → List Word
on_nexts nexts = numbered (λ k next. sent_again (take k nexts) next) 0 nexts

abbrev pub out_name : POut → Word
out_name out = out.name

abbrev pub atom_name : PAtom → Word
atom_name atom = atom.name

-- what stands once in an outcome
record IsOutOnce (out : OutContent) : Type 0 where
  pub cases : All (λ case. AreDifferent (assigned_names case)) out.cases
  pub sent : (atom : List ℕ) → AreDifferent (sent_names out.nexts atom)

out_once : (before : List POut) (out : POut) → twice_in_out before out ≡ [] → IsOutOnce (out_content out)
out_once before out h =
    let two = empty_parts (flat_map in_case out.cases) (on_nexts out.nexts) (empty_parts (again out_name before out) (flat_map in_case out.cases ++ on_nexts out.nexts) h).1 in
    record {
      cases = All-map (λ case. AreDifferent (assigned_names case)) case_content out.cases
          (λ k d l. let sets = (get_or out.cases k d).sets in of_contents set_content (λ set. set.agent) sets (once (λ (set : PSet). set.agent) sets (clear-flat in_case out.cases two.0 k d l)));
      sent = λ atom. sent_once atom out.nexts (clear_pairs sent_again Apart next_apart out.nexts two.1) (clear-numbered (λ k next. sent_again (take k out.nexts) next) IsOnce (λ k next e. next_once (take k out.nexts) next e) 0 out.nexts two.1);
    }

none_in_out : (before : List POut) (out : POut) → All (λ other. other.name.text ≢ out.name.text) before → IsOutOnce (out_content out) → twice_in_out before out ≡ []
none_in_out before out other h =
    empty_both (again out_name before out) (flat_map in_case out.cases ++ on_nexts out.nexts) (none_before out_name before out other)
    (empty_both (flat_map in_case out.cases) (on_nexts out.nexts)
    (empty-flat in_case out.cases
    (λ k d l. let sets = (get_or out.cases k d).sets in none_twice (λ (set : PSet). set.agent) sets (to_contents set_content (λ set. set.agent) sets (All-unmap (λ case. AreDifferent (assigned_names case)) case_content out.cases h.cases k d l))))
    (empty_pairs sent_again Apart IsOnce none_on_next out.nexts (all_apart out.nexts h.sent) (all_once out.nexts h.sent)))

-- what stands once in an atom
record IsAtomOnce (atom : AtomContent) : Type 0 where
  pub outcomes : AreDifferent (map (λ out. out.name) atom.outs)
  pub parties : AreDifferent atom.parties
  pub outs : All IsOutOnce atom.outs

abbrev pub in_outs : List POut → List Word
in_outs outs = numbered (λ i out. twice_in_out (take i outs) out) 0 outs

abbrev pub of_parties : List Word → List Word
of_parties words = repeated (λ (party : Word). party) words

atom_once : (before : List PAtom) (atom : PAtom) → twice_in_atom before atom ≡ [] → IsAtomOnce (atom_content atom)
atom_once before atom h =
    let two = empty_parts (of_parties atom.parties) (in_outs atom.outs) (empty_parts (again atom_name before atom) (of_parties atom.parties ++ in_outs atom.outs) h).1 in
    record {
      outcomes = of_contents out_content (λ out. out.name) atom.outs
          (clear_pairs twice_in_out (λ x y. x.name.text ≢ y.name.text) (λ ahead out e. not_before out_name ahead out (empty_parts (again out_name ahead out) (flat_map in_case out.cases ++ on_nexts out.nexts) e).0) atom.outs two.1);
      parties = AllPairs-map Differ (λ (w : Word). w.text) atom.parties (once (λ (party : Word). party) atom.parties two.0);
      outs = All-map IsOutOnce out_content atom.outs (clear-numbered (λ i out. twice_in_out (take i atom.outs) out) (λ out. IsOutOnce (out_content out)) (λ i out e. out_once (take i atom.outs) out e) 0 atom.outs two.1);
    }

none_in_atom : (before : List PAtom) (atom : PAtom) → All (λ other. other.name.text ≢ atom.name.text) before → IsAtomOnce (atom_content atom) → twice_in_atom before atom ≡ []
none_in_atom before atom other h =
    empty_both (again atom_name before atom) (of_parties atom.parties ++ in_outs atom.outs) (none_before atom_name before atom other)
    (empty_both (of_parties atom.parties) (in_outs atom.outs)
    (none_twice (λ (party : Word). party) atom.parties (AllPairs-unmap Differ (λ (w : Word). w.text) atom.parties h.parties))
    (empty_pairs twice_in_out (λ x y. x.name.text ≢ y.name.text) (λ out. IsOutOnce (out_content out)) none_in_out atom.outs (to_contents out_content (λ out. out.name) atom.outs h.outcomes) (All-unmap IsOutOnce out_content atom.outs h.outs)))

-- ---- the text

abbrev pub in_agents : List PAgent → List Word
in_agents agents = repeated (λ (agent : PAgent). agent.name) agents

abbrev pub in_atoms : List PAtom → List Word
in_atoms atoms = numbered (λ n atom. twice_in_atom (take n atoms) atom) 0 atoms

module _ (p : Parsed) where
  pub named_once : twice_words p ≡ [] → AreNamedOnce (content_of p)
  named_once h =
      let two = empty_parts (in_agents p.agents) (in_atoms p.atoms) h in
      let each : All (λ atom. IsAtomOnce (atom_content atom)) p.atoms = clear-numbered (λ n atom. twice_in_atom (take n p.atoms) atom) (λ atom. IsAtomOnce (atom_content atom)) (λ n atom e. atom_once (take n p.atoms) atom e) 0 p.atoms two.1 in
      let placed = all_placed IsOutOnce p (All-flat (λ out. IsOutOnce (out_content out)) (λ (atom : PAtom). atom.outs) p.atoms (λ k d l. All-unmap IsOutOnce out_content (get_or p.atoms k d).outs (each k d l).outs)) in
      record {
        agents = of_contents agent_content (λ agent. agent.name) p.agents (once (λ (agent : PAgent). agent.name) p.agents two.0);
        atoms = of_contents atom_content (λ atom. atom.name) p.atoms
            (clear_pairs twice_in_atom (λ x y. x.name.text ≢ y.name.text) (λ before atom e. not_before atom_name before atom (empty_parts (again atom_name before atom) (of_parties atom.parties ++ in_outs atom.outs) e).0) p.atoms two.1);
        outcomes = All-map (λ (atom : AtomContent). AreDifferent (map (λ out. out.name) atom.outs)) atom_content p.atoms (λ k d l. (each k d l).outcomes);
        parties = All-map (λ (atom : AtomContent). AreDifferent atom.parties) atom_content p.atoms (λ k d l. (each k d l).parties);
        assigned = λ k d l. (placed k d l).cases;
        sent = λ k d l. (placed k d l).sent;
      }

  pub none_again_in : AreNamedOnce (content_of p) → twice_words p ≡ []
  none_again_in h =
      let each : All (λ (a : PAtom). All (λ out. IsOutOnce (out_content out)) a.outs) p.atoms =
      All-each (λ out. IsOutOnce (out_content out)) (λ (a : PAtom). a.outs) p.atoms (all_read IsOutOnce p (λ k d l. record { cases = h.assigned k d l; sent = h.sent k d l })) in
      empty_both (in_agents p.agents) (in_atoms p.atoms)
      (none_twice (λ (agent : PAgent). agent.name) p.agents (to_contents agent_content (λ agent. agent.name) p.agents h.agents))
      (empty_pairs twice_in_atom (λ x y. x.name.text ≢ y.name.text) (λ atom. IsAtomOnce (atom_content atom)) none_in_atom p.atoms (to_contents atom_content (λ atom. atom.name) p.atoms h.atoms)
      (λ k d l.
      let atom = get_or p.atoms k d in
      record {
        outcomes = All-unmap (λ (x : AtomContent). AreDifferent (map (λ out. out.name) x.outs)) atom_content p.atoms h.outcomes k d l;
        parties = All-unmap (λ (x : AtomContent). AreDifferent x.parties) atom_content p.atoms h.parties k d l;
        outs = All-map IsOutOnce out_content atom.outs (each k d l);
      }))
