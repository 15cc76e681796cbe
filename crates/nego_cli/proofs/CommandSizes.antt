-- The number of atoms in the words of `make` is from 2 to 64.
use Rattle.std.proofs.Common.{◌≡◌, ℕ, ◌≤◌, Bool, true, false, ◌&&◌, nat_le, List, [], ◌∷◌, length, Option, Some, None, codes, cond, subst}
use Rattle.std.specs.Prelude.{IfSome, bytes_eq, option_and_then, option_map}
use Rattle.std.specs.Str.Parse.{digits_value}
use Rattle.std.proofs.lemmas.Bool.{and_parts, cond_both, leb-true}
use Rattle.nego_base.specs.Number.{is_numeral}
use Rattle.nego_cli.specs.declared.command.Command.{Command}
use Rattle.nego_cli.specs.declared.command.Command.TheVariants as commands
use Rattle.nego_cli.specs.Words.{are_words, command_of, command_named, command_with, make_words, node_words, number_word, seed_word, size_word, start_words, takes_count, turns_word}
use Rattle.nego_cli.specs.Make.{HasSize}

abbrev Sized : Option Command → Type 0
Sized given = IfSome given HasSize

abbrev IsSize : ℕ → Type 0
IsSize n = (2 ≤ n) × (n ≤ 64)

-- what holds of each value that is given, and of what is made of it
given_so : {X Y : Type 0} (P : X → Type 0) (Q : Y → Type 0) (f : X → Option Y) (o : Option X) → ((x : X) → P x → IfSome (f x) Q) → IfSome o P → IfSome (option_and_then f o) Q
given_so P Q f None so h = tt
given_so P Q f (Some x) so h = so x h

mapped_so : {X Y : Type 0} (P : X → Type 0) (Q : Y → Type 0) (f : X → Y) (o : Option X) → ((x : X) → P x → Q (f x)) → IfSome o P → IfSome (option_map f o) Q
mapped_so P Q f None so h = tt
mapped_so P Q f (Some x) so h = so x h

-- of any value
any : {X : Type 0} (o : Option X) → IfSome o (λ _. Unit {0})
any None = tt
any (Some x) = tt

number_small : (most : ℕ) (word : List ℕ) → IfSome (number_word most word) (λ n. n ≤ most)
number_small most word =
    let n = digits_value 10 word in
    cond_both (is_numeral word && nat_le n most) (Some n) None (λ o. IfSome o (λ m. m ≤ most)) (λ t. leb-true n most (and_parts (is_numeral word) (nat_le n most) t).1) (λ _. tt)

size_so : (word : List ℕ) → IfSome (size_word word) IsSize
size_so word =
    given_so (λ n. n ≤ 64) IsSize (λ n. cond (nat_le 2 n) (Some n) None) (number_word 64 word)
    (λ n few. cond_both (nat_le 2 n) (Some n) None (λ o. IfSome o IsSize) (λ t. (leb-true 2 n t, few)) (λ _. tt)) (number_small 64 word)

make_sized : (words : List (List ℕ)) → Sized (make_words words)
make_sized [] = tt
make_sized (size ∷ []) = mapped_so IsSize HasSize (λ n. commands.Make n) (size_word size) (λ n h. h) (size_so size)
make_sized (size ∷ next ∷ rest) = tt

node_sized : (words : List (List ℕ)) → Sized (node_words words)
node_sized [] = tt
node_sized (seed ∷ []) = tt
node_sized (seed ∷ turns ∷ starts) =
    given_so (λ _. Unit {0}) HasSize (λ s. option_and_then (λ t. option_map (λ ns. commands.Node s t ns) (start_words starts)) (turns_word turns)) (seed_word seed)
    (λ s _. given_so (λ _. Unit {0}) HasSize (λ t. option_map (λ ns. commands.Node s t ns) (start_words starts)) (turns_word turns)
    (λ t _. mapped_so (λ _. Unit {0}) HasSize (λ ns. commands.Node s t ns) (start_words starts) (λ ns _. tt) (any (start_words starts))) (any (turns_word turns))) (any (seed_word seed))

-- one of two
either : (b : Bool) (x y : Option Command) → Sized x → Sized y → Sized (cond b x y)
either b x y p q = cond_both b x y Sized (λ _. p) (λ _. q)

with_sized : (name : List ℕ) (words : List (List ℕ)) → Sized (command_with name words)
with_sized name words =
    either (bytes_eq name (codes "check")) (Some commands.Check) _ tt
    (either (bytes_eq name (codes "reduce")) (Some commands.Reduce) _ tt
    (either (bytes_eq name (codes "replay")) (Some commands.Replay) _ tt
    (either (bytes_eq name (codes "ask")) (option_map (λ ns. commands.Ask ns) (start_words words)) _ (mapped_so (λ _. Unit {0}) HasSize (λ ns. commands.Ask ns) (start_words words) (λ ns _. tt) (any (start_words words)))
    (either (bytes_eq name (codes "run")) (option_map (λ ns. commands.Run ns) (start_words words)) _ (mapped_so (λ _. Unit {0}) HasSize (λ ns. commands.Run ns) (start_words words) (λ ns _. tt) (any (start_words words)))
    (either (bytes_eq name (codes "node")) (node_words words) _ (node_sized words)
    (either (bytes_eq name (codes "make")) (make_words words) None (make_sized words) tt))))))

named_sized : (words : List (List ℕ)) → Sized (command_named words)
named_sized [] = tt
named_sized (name ∷ words) = either (takes_count name (length words)) (command_with name words) None (with_sized name words) tt

-- the command that words say
pub command_sized : (words : List (List ℕ)) (command : Command) → command_of words ≡ Some command → HasSize command
command_sized words command is = subst Sized is (either (are_words words) (command_named words) None (named_sized words) tt)
