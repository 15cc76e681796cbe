-- The command line takes words exactly where the first names a command that takes as many as stand behind it.
use Rattle.std.proofs.Common.{◌≡◌, ◌∙◌, ◌&&◌, ◌||◌, ℕ, Bool, true, false, suc, refl, sym, ap, ap₂, subst, arith, List, [], ◌∷◌, length, Some, None, codes, nat_lt, true≢false}
use Rattle.std.specs.Prelude.{◌≢◌, ◌==◌, not, nat_le, if◌then◌else◌}
use Rattle.std.specs.Str.{bytes_eq}
use Rattle.std.proofs.lemmas.Slice.Eq.{bytes_eq-Decides}
use Rattle.std.proofs.lemmas.Bool.Decides.{nat_tests}
use Rattle.clap.specs.Walk.{Row, Text, idle, nothing_held, rows_after, subcommand_met}
use Rattle.clap.specs.Simple.{Shape, subcommand_of}
use Rattle.clap.specs.Kinds.{Kinds, range_kinds}
use Rattle.clap.specs.Faults.{fault_of, level_fault}
use Rattle.clap.specs.declared.error.kind.ErrorKind.TheVariants as kind
use Rattle.nego_cli.specs.CommandLine.{alone, command_line, with_numbers}
use Rattle.nego_cli.specs.Words.{takes_count}
use Rattle.nego_cli.proofs.BehindName.{AllPlain, IsPlain, bare_fault, missing_fault, none_fault, numbers_row, one_fault, one_row, ready, several_fault, several_rows, stray_fault, two_fault}
use Rattle.nego_cli.proofs.FirstWord.{command_found, named_fault, named_rows, names, other_fault_of}

-- there is no fault exactly where the test passes
abbrev pub Agrees : Kinds → Bool → Type 0
Agrees faults test = (faults ≡ [] → test ≡ true) × (faults ≢ [] → test ≡ false)

agree_by : (j k : Kinds) (s t : Bool) → j ≡ k → s ≡ t → Agrees k t → Agrees j s
agree_by j k s t e f h = (λ none. f ∙ h.0 (sym e ∙ none), λ some. f ∙ h.1 (λ none. some (e ∙ none)))

fault_agrees : (k : _) → Agrees (k ∷ []) false
fault_agrees k = (λ bad. cc, λ _. refl)

faults_agree : (j k : _) → Agrees (j ∷ k ∷ []) false
faults_agree j k = (λ bad. cc, λ _. refl)

none_agrees : Agrees [] true
none_agrees = (λ _. refl, λ bad. absurd (bad refl))

-- the faults of a count of words that isn't 0
abbrev count_kinds : Bool → Bool → Kinds
count_kinds below above = if below then kind.TooFewValues ∷ [] else (if above then kind.TooManyValues ∷ [] else [])

counts_agree : (below above : Bool) → Agrees (count_kinds below above) (not below && not above)
counts_agree true above = fault_agrees _
counts_agree false true = fault_agrees _
counts_agree false false = none_agrees

range_agrees : (fewest most n : ℕ) → nat_lt 0 fewest ≡ true → (fewest == most) ≡ false → (n == 0) ≡ false → Agrees (range_kinds fewest most n) (nat_le fewest n && nat_le n most)
range_agrees fewest most n some apart words =
    let kinds : range_kinds fewest most n ≡ count_kinds (nat_lt n fewest) (nat_lt most n) = rw (some, words, apart) refl in
    let enough : nat_le fewest n ≡ not (nat_lt n fewest) = grind (arith, nat_tests) in
    let few : nat_le n most ≡ not (nat_lt most n) = grind (arith, nat_tests) in
    agree_by _ _ _ _ kinds (ap₂ (λ s t. s && t) enough few) (counts_agree (nat_lt n fewest) (nat_lt most n))

none_behind : (n : ℕ) → (nat_le 0 (suc n) && nat_le (suc n) 0) ≡ false
none_behind n = grind (arith, nat_tests)

one_behind : (n : ℕ) → (nat_le 1 (suc (suc n)) && nat_le (suc (suc n)) 1) ≡ false
one_behind n = grind (arith, nat_tests)

counted : (n : ℕ) → (suc n == 0) ≡ false
counted n = grind (arith, nat_tests)

abbrev pub rows_for : List Text → List Row
rows_for [] = []
rows_for (word ∷ rest) = numbers_row (word ∷ rest) ∷ []

-- the command takes so many words behind the name, and has them as they are
abbrev pub SplitsAs : Text → List Text → Type 0
SplitsAs name rest =
    Agrees (fault_of command_line (name ∷ rest)) (takes_count name (length rest))
    × (fault_of command_line (name ∷ rest) ≡ [] → subcommand_of command_line (name ∷ rest) ≡ Some (name, rows_for rest))

-- the command of the name is found
record IsFound (name : Text) (s : Shape) : Type 0 where
  met : subcommand_met names idle name ≡ Some name
  help : bytes_eq name (codes "help") ≡ false
  found : command_found name ≡ Some s

named_splits : (name : Text) (s : Shape) (k : IsFound name s) (rest : List Text) (faults : Kinds) (test : Bool)
    → level_fault s [] nothing_held rest false [] ≡ faults → takes_count name (length rest) ≡ test → Agrees faults test
    → (faults ≡ [] → ◌≡◌ {A = Text × List Row} (s.name, rows_after s.rules [] rest) (name, rows_for rest)) → SplitsAs name rest
named_splits name s k rest faults test of_level count agree rows =
    let fault : fault_of command_line (name ∷ rest) ≡ faults = named_fault name k.met k.help s k.found rest ∙ of_level in
    (agree_by _ _ _ _ fault count agree, λ none. named_rows name k.met k.help s k.found rest ∙ ap Some (rows (sym fault ∙ none)))

bare_splits : (name : Text) → IsFound name (ready (alone name)) → ((n : ℕ) → takes_count name n ≡ (nat_le 0 n && nat_le n 0)) → (rest : List Text) → AllPlain rest → SplitsAs name rest
bare_splits name k count [] h = named_splits name _ k [] [] true (bare_fault name) (count 0) none_agrees (λ _. refl)
bare_splits name k count (word ∷ rest) h =
    named_splits name _ k (word ∷ rest) _ false (stray_fault name word rest h.0) (count _ ∙ none_behind (length rest)) (fault_agrees _) (λ bad. cc)

several_splits : (name : Text) (fewest most : ℕ) → IsFound name (ready (with_numbers name fewest most)) → ((n : ℕ) → takes_count name n ≡ (nat_le fewest n && nat_le n most))
    → nat_lt 0 fewest ≡ true → (fewest == most) ≡ false → (rest : List Text) → AllPlain rest → SplitsAs name rest
several_splits name fewest most k count some apart [] h =
    let several : (not (fewest == most) || nat_lt 1 fewest) ≡ true = rw apart refl in
    let short : nat_le fewest 0 ≡ false = grind (arith, nat_tests) in
    named_splits name _ k [] _ false (none_fault name fewest most several) (count 0 ∙ rw short refl) (fault_agrees _) (λ bad. cc)
several_splits name fewest most k count some apart (word ∷ rest) h =
    let several : (not (fewest == most) || nat_lt 1 fewest) ≡ true = rw apart refl in
    named_splits name _ k (word ∷ rest) _ _ (several_fault name fewest most several word rest h) (count _) (range_agrees fewest most (length (word ∷ rest)) some apart (counted (length rest)))
    (λ _. ap (λ rows. (name, rows)) (several_rows name fewest most several word rest h))

single_splits : (name : Text) → IsFound name (ready (with_numbers name 1 1)) → ((n : ℕ) → takes_count name n ≡ (nat_le 1 n && nat_le n 1)) → (rest : List Text) → AllPlain rest → SplitsAs name rest
single_splits name k count [] h = named_splits name _ k [] _ false (missing_fault name) (count 0) (fault_agrees _) (λ bad. cc)
single_splits name k count (word ∷ []) h = named_splits name _ k (word ∷ []) [] true (one_fault name word h.0) (count 1) none_agrees (λ _. ap (λ rows. (name, rows)) (one_row name word h.0))
single_splits name k count (word ∷ second ∷ rest) h =
    named_splits name _ k (word ∷ second ∷ rest) _ false (two_fault name word second rest h.0 h.1.0) (count _ ∙ one_behind (length rest)) (fault_agrees _) (λ bad. cc)

-- ---- the names

check_is : IsFound (codes "check") (ready (alone (codes "check")))
check_is = record { met = refl; help = refl; found = refl }

reduce_is : IsFound (codes "reduce") (ready (alone (codes "reduce")))
reduce_is = record { met = refl; help = refl; found = refl }

replay_is : IsFound (codes "replay") (ready (alone (codes "replay")))
replay_is = record { met = refl; help = refl; found = refl }

ask_is : IsFound (codes "ask") (ready (with_numbers (codes "ask") 1 16))
ask_is = record { met = refl; help = refl; found = refl }

run_is : IsFound (codes "run") (ready (with_numbers (codes "run") 1 16))
run_is = record { met = refl; help = refl; found = refl }

node_is : IsFound (codes "node") (ready (with_numbers (codes "node") 3 18))
node_is = record { met = refl; help = refl; found = refl }

make_is : IsFound (codes "make") (ready (with_numbers (codes "make") 1 1))
make_is = record { met = refl; help = refl; found = refl }

differ : (xs ys : List ℕ) → xs ≢ ys → bytes_eq xs ys ≡ false
differ xs ys h = go (bytes_eq xs ys) refl
  where
    go : (b : Bool) → bytes_eq xs ys ≡ b → bytes_eq xs ys ≡ false
    go true e = absurd (h ((bytes_eq-Decides xs ys).0 e))
    go false e = e

-- a text is this one or another
either : (name text : Text) (P : Type 0) → (name ≡ text → P) → (name ≢ text → P) → P
either name text P same other = go (bytes_eq name text) refl
  where
    go : (b : Bool) → bytes_eq name text ≡ b → P
    go true e = same ((bytes_eq-Decides name text).0 e)
    go false e = other (λ is. true≢false (sym ((bytes_eq-Decides name text).1 is) ∙ e))

-- the name is none of the commands'
record IsOther (name : Text) : Type 0 where
  no_check : name ≢ codes "check"
  no_reduce : name ≢ codes "reduce"
  no_replay : name ≢ codes "replay"
  no_ask : name ≢ codes "ask"
  no_run : name ≢ codes "run"
  no_node : name ≢ codes "node"
  no_make : name ≢ codes "make"

other_count : (name : Text) → IsOther name → (n : ℕ) → takes_count name n ≡ false
other_count name o n =
    rw (differ name _ o.no_check, differ name _ o.no_reduce, differ name _ o.no_replay, differ name _ o.no_ask, differ name _ o.no_run, differ name _ o.no_node, differ name _ o.no_make) refl

other_met : (name : Text) → IsOther name → subcommand_met names idle name ≡ None
other_met name o =
    let apart = λ (text : Text) (h : name ≢ text). differ text name (λ e. h (sym e)) in
    rw (apart _ o.no_check, apart _ o.no_reduce, apart _ o.no_replay, apart _ o.no_ask, apart _ o.no_run, apart _ o.no_node, apart _ o.no_make) refl

other_splits : (name : Text) (rest : List Text) → IsPlain name → IsOther name → SplitsAs name rest
other_splits name rest h o =
    let fault = other_fault_of name h (other_met name o) rest in
    (agree_by _ _ _ _ fault (other_count name o (length rest)) (faults_agree _ _), λ none. let bad = sym fault ∙ none in cc)

pub splits : (name : Text) (rest : List Text) → AllPlain (name ∷ rest) → SplitsAs name rest
splits name rest h =
    let P = SplitsAs name rest in
    let found : (text : Text) → SplitsAs text rest → name ≡ text → P = λ text s e. subst (λ n. SplitsAs n rest) (sym e) s in
    either name (codes "check") P (found _ (bare_splits _ check_is (λ _. refl) rest h.1)) (λ no_check.
    either name (codes "reduce") P (found _ (bare_splits _ reduce_is (λ _. refl) rest h.1)) (λ no_reduce.
    either name (codes "replay") P (found _ (bare_splits _ replay_is (λ _. refl) rest h.1)) (λ no_replay.
    either name (codes "ask") P (found _ (several_splits _ 1 16 ask_is (λ _. refl) refl refl rest h.1)) (λ no_ask.
    either name (codes "run") P (found _ (several_splits _ 1 16 run_is (λ _. refl) refl refl rest h.1)) (λ no_run.
    either name (codes "node") P (found _ (several_splits _ 3 18 node_is (λ _. refl) refl refl rest h.1)) (λ no_node.
    either name (codes "make") P (found _ (single_splits _ make_is (λ _. refl) rest h.1)) (λ no_make.
    other_splits name rest h.0 (record { no_check = no_check; no_reduce = no_reduce; no_replay = no_replay; no_ask = no_ask; no_run = no_run; no_node = no_node; no_make = no_make }))))))))
