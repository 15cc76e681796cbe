-- Names by number in the value of a text, and words that are appended to a text one by one.
use Rattle.std.proofs.Common.{◌≡◌, ◌∙◌, ℕ, zero, suc, ◌+◌, ◌-◌, ◌<◌, ◌≤◌, List, [], ◌∷◌, ◌++◌, length, map, drop, get_or, slice_get, unwrap_or, Some, None, ap, sym, refl, append_assoc, arith, add-one, ◌%◌, take, replicate}
use Rattle.std.specs.Prelude.{Result, Ok, Err, OnOk, codes, decimal}
use Rattle.std.specs.Option.{option_map, option_map_or}
use Rattle.std.proofs.Math.Seq.{drop-cons}
use Rattle.std.proofs.lemmas.List.{drop_all, length-map, take_at}
use Rattle.std.proofs.lemmas.Option.{none-some, slice_get-map, unwrap_or-slice_get}
use Rattle.nego_data.specs.Data.{data_count, split}
use Rattle.nego_data.specs.Sizes.{tuple_of}
use Rattle.nego_model.specs.Diagram.{agent_name, atom_name, atom_of, outcome_name}
use Rattle.nego_base.specs.Appending.{Appends}
use Rattle.nego_reader.specs.declared.parsed.Parsed.{Parsed}
use Rattle.nego_reader.specs.declared.parsed.PAgent.{PAgent}
use Rattle.nego_reader.specs.declared.parsed.PAtom.{PAtom}
use Rattle.nego_reader.specs.declared.parsed.POut.{POut}
use Rattle.nego_reader.specs.Content.{OutContent, content_of, agent_content, atom_content, out_content}
use Rattle.nego_shape.specs.Naming.{PlacedOut, outs_from, all_outs, atom_in, outcome_in}
use Rattle.nego_cli.specs.Refusals.{diagram_of, value_words}

-- ---- lists, one after the other

get_front : {A : Type 0} (xs ys : List A) (i : ℕ) (x : A) → slice_get xs i ≡ Some x → slice_get (xs ++ ys) i ≡ Some x
get_front [] ys i x h = absurd (none-some x h)
get_front (z ∷ xs) ys zero x h = h
get_front (z ∷ xs) ys (suc i) x h = get_front xs ys i x h

get_behind : {A : Type 0} (xs ys : List A) (i : ℕ) → slice_get xs i ≡ None → slice_get (xs ++ ys) i ≡ slice_get ys (i - length xs)
get_behind [] ys i h = let e : i ≡ i - 0 = omega arith in ap (slice_get ys) e
get_behind (z ∷ xs) ys zero h = absurd (none-some z (sym h))
get_behind (z ∷ xs) ys (suc i) h = let e : i - length xs ≡ suc i - suc (length xs) = omega arith in get_behind xs ys i h ∙ ap (slice_get ys) e

pub none_within : {A : Type 0} (xs : List A) (i : ℕ) → slice_get xs i ≡ None → length xs ≤ i
none_within [] i h = omega arith
none_within (z ∷ xs) zero h = absurd (none-some z (sym h))
none_within (z ∷ xs) (suc i) h = let l = none_within xs i h in omega (arith, l)

-- ---- agents and atoms

pub agent_there : (p : Parsed) (a : ℕ) (agent : PAgent) → slice_get p.agents a ≡ Some agent → agent.name.text ≡ agent_name (diagram_of p) a
agent_there p a agent h =
    let names = map (λ one. one.name) (map agent_content p.agents) in
    sym (sym (unwrap_or-slice_get names a [])
    ∙ ap (λ o. unwrap_or o []) (slice_get-map (λ one. one.name) (map agent_content p.agents) a ∙ ap (option_map (λ one. one.name)) (slice_get-map agent_content p.agents a ∙ ap (option_map agent_content) h)))

pub agent_nowhere : (p : Parsed) (a : ℕ) → slice_get p.agents a ≡ None → [] ≡ agent_name (diagram_of p) a
agent_nowhere p a h =
    let names = map (λ one. one.name) (map agent_content p.agents) in
    sym (sym (unwrap_or-slice_get names a [])
    ∙ ap (λ o. unwrap_or o []) (slice_get-map (λ one. one.name) (map agent_content p.agents) a ∙ ap (option_map (λ one. one.name)) (slice_get-map agent_content p.agents a ∙ ap (option_map agent_content) h)))

pub atom_there : (p : Parsed) (n : ℕ) (atom : PAtom) → slice_get p.atoms n ≡ Some atom → atom.name.text ≡ atom_name (diagram_of p) n
atom_there p n atom h =
    sym (ap (λ o. option_map_or (λ one. one.name) o []) (slice_get-map (atom_in (content_of p)) (map atom_content p.atoms) n
    ∙ ap (option_map (atom_in (content_of p))) (slice_get-map atom_content p.atoms n ∙ ap (option_map atom_content) h)))

pub atom_nowhere : (p : Parsed) (n : ℕ) → slice_get p.atoms n ≡ None → [] ≡ atom_name (diagram_of p) n
atom_nowhere p n h =
    sym (ap (λ o. option_map_or (λ one. one.name) o []) (slice_get-map (atom_in (content_of p)) (map atom_content p.atoms) n
    ∙ ap (option_map (atom_in (content_of p))) (slice_get-map atom_content p.atoms n ∙ ap (option_map atom_content) h)))

-- ---- outcomes, atom by atom

-- an outcome of an atom
abbrev pub placed : ℕ → OutContent → PlacedOut
placed n out = record { atom = n; out = out }

-- the outcomes of the atoms from number n on
abbrev pub outs_of : ℕ → List PAtom → List PlacedOut
outs_of n atoms = outs_from n (map atom_content atoms)

-- from an atom on, an outcome of it
out_here : (n : ℕ) (atom : PAtom) (atoms : List PAtom) (left : ℕ) (out : POut) → slice_get atom.outs left ≡ Some out → slice_get (outs_of n (atom ∷ atoms)) left ≡ Some (placed n (out_content out))
out_here n atom atoms left out h =
    get_front (map (placed n) (map out_content atom.outs)) (outs_of (n + 1) atoms) left (placed n (out_content out))
    (slice_get-map (placed n) (map out_content atom.outs) left ∙ ap (option_map (placed n)) (slice_get-map out_content atom.outs left ∙ ap (option_map out_content) h))

-- or one of those behind it
out_behind : (n : ℕ) (atom : PAtom) (atoms : List PAtom) (left : ℕ) → slice_get atom.outs left ≡ None → slice_get (outs_of n (atom ∷ atoms)) left ≡ slice_get (outs_of (n + 1) atoms) (left - length atom.outs)
out_behind n atom atoms left h =
    get_behind (map (placed n) (map out_content atom.outs)) (outs_of (n + 1) atoms) left
    (slice_get-map (placed n) (map out_content atom.outs) left ∙ ap (option_map (placed n)) (slice_get-map out_content atom.outs left ∙ ap (option_map out_content) h))
    ∙ ap (λ k. slice_get (outs_of (n + 1) atoms) (left - k)) (length-map (map out_content atom.outs) (placed n) ∙ length-map atom.outs out_content)

-- the outcome that is looked for is so far behind the first of the atoms from number i on
abbrev pub IsBehind : List PAtom → ℕ → ℕ → ℕ → Type 0
IsBehind atoms o i left = slice_get (outs_of 0 atoms) o ≡ slice_get (outs_of i (drop i atoms)) left

cut : (atoms : List PAtom) (i : ℕ) (atom : PAtom) → i < length atoms → atom ≡ get_or atoms i atom → drop i atoms ≡ atom ∷ drop (i + 1) atoms
cut atoms i atom inside is =
    let parts : drop i atoms ≡ get_or atoms i atom ∷ drop (i + 1) atoms = rw add-one (drop-cons atoms i atom inside) in
    parts ∙ ap (λ (y : PAtom). y ∷ drop (i + 1) atoms) (sym is)

pub behind_here : (atoms : List PAtom) (o i left : ℕ) (atom : PAtom) (out : POut) → i < length atoms → atom ≡ get_or atoms i atom → slice_get atom.outs left ≡ Some out → IsBehind atoms o i left →
    slice_get (outs_of 0 atoms) o ≡ Some (placed i (out_content out))
behind_here atoms o i left atom out inside is h so_far =
    so_far ∙ (ap (λ rest. slice_get (outs_of i rest) left) (cut atoms i atom inside is) ∙ out_here i atom (drop (i + 1) atoms) left out h)

pub behind_next : (atoms : List PAtom) (o i left : ℕ) (atom : PAtom) → i < length atoms → atom ≡ get_or atoms i atom → slice_get atom.outs left ≡ None → IsBehind atoms o i left →
    IsBehind atoms o (i + 1) (left - length atom.outs)
behind_next atoms o i left atom inside is h so_far =
    so_far ∙ (ap (λ rest. slice_get (outs_of i rest) left) (cut atoms i atom inside is) ∙ out_behind i atom (drop (i + 1) atoms) left h)

pub behind_all : (atoms : List PAtom) (o i left : ℕ) → length atoms ≤ i → IsBehind atoms o i left → slice_get (outs_of 0 atoms) o ≡ None
behind_all atoms o i left past so_far = so_far ∙ ap (λ rest. slice_get (outs_of i rest) left) (drop_all i atoms past)

module _ (p : Parsed) (o : ℕ) where
  pub out_atom : (x : PlacedOut) → slice_get (outs_of 0 p.atoms) o ≡ Some x → x.atom ≡ atom_of (diagram_of p) o
  out_atom x h =
      sym (ap (λ found. option_map_or (λ outcome. outcome.atom) found 0) (slice_get-map (outcome_in (content_of p)) (all_outs (content_of p)) o ∙ ap (option_map (outcome_in (content_of p))) h))

  pub out_name : (x : PlacedOut) → slice_get (outs_of 0 p.atoms) o ≡ Some x → x.out.name ≡ outcome_name (diagram_of p) o
  out_name x h =
      sym (ap (λ found. option_map_or (λ outcome. outcome.name) found []) (slice_get-map (outcome_in (content_of p)) (all_outs (content_of p)) o ∙ ap (option_map (outcome_in (content_of p))) h))

  pub none_atom : slice_get (outs_of 0 p.atoms) o ≡ None → 0 ≡ atom_of (diagram_of p) o
  none_atom h =
      sym (ap (λ found. option_map_or (λ outcome. outcome.atom) found 0) (slice_get-map (outcome_in (content_of p)) (all_outs (content_of p)) o ∙ ap (option_map (outcome_in (content_of p))) h))

  pub none_name : slice_get (outs_of 0 p.atoms) o ≡ None → [] ≡ outcome_name (diagram_of p) o
  none_name h =
      sym (ap (λ found. option_map_or (λ outcome. outcome.name) found []) (slice_get-map (outcome_in (content_of p)) (all_outs (content_of p)) o ∙ ap (option_map (outcome_in (content_of p))) h))

-- ---- values

-- values and one more
pub value_words-more : (values : List ℕ) (value : ℕ) (rest : List ℕ) → value_words (values ++ value ∷ []) rest ≡ value_words values (codes " " ++ (decimal value ++ rest))
value_words-more [] value rest = refl
value_words-more (first ∷ values) value rest = ap (λ t. codes " " ++ (decimal first ++ t)) (value_words-more values value rest)

-- what follows from what holds where all went well
pub then_ok : {T E : Type 0} (r : Result T E) (P Q : Type 0) → (P → Q) → OnOk r P → OnOk r Q
then_ok (Ok x) P Q f h = f h
then_ok (Err e) P Q f h = tt

-- Words were put behind a text.
pub appends_words : (old new words : List ℕ) → new ≡ old ++ words → Appends old new (λ rest. words ++ rest)
appends_words old new words e rest = ap (λ t. t ++ rest) e ∙ append_assoc old words rest

-- as many values as sizes
length_split : (sizes : List ℕ) (d : ℕ) → length (split sizes d) ≡ length sizes
length_split [] d = refl
length_split (size ∷ sizes) d = ap suc (length_split sizes (d % data_count sizes))

-- the first of a tuple are the values
pub front_values : (sizes : List ℕ) (d : ℕ) → take (length sizes) (tuple_of sizes d) ≡ split sizes d
unfolding tuple_of
front_values sizes d = take_at (split sizes d) (replicate (16 - length sizes) 0) (length sizes) (length_split sizes d)
