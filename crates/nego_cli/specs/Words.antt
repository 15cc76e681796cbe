-- The command that words say.
use Rattle.std.specs.Prelude.{◌≡◌, MatchResult, Result, ℕ, ◌^◌, ◌-◌, Bool, false, not, ◌&&◌, ◌==◌, ◌<◌, ◌≤◌, ◌↔◌, nat_le, List, [], ◌∷◌, length, Option, Some, None, option_map, option_and_then, if◌then◌else◌, codes, bytes_eq, decimal, slice_index}
use Rattle.std.specs.List.{list_all}
use Rattle.std.specs.Str.Parse.{digits_value}
use Rattle.nego_base.specs.Number.{is_numeral}
use Rattle.nego_cli.specs.declared.command.Command.{Command}
use Rattle.nego_cli.specs.declared.command.Command.TheVariants.{Check, Reduce, Replay, Ask, Run, Node, Make}
use Rattle.nego_cli.specs.declared.command.WordsAnswer.{WordsAnswer}
use Rattle.nego_cli.specs.declared.command.WordsAnswer.TheVariants.{Words as BadWords}

-- the bytes are printable ones and no blank, from 1 to 24 of them, and the first is no `-`
abbrev pub is_word : List ℕ → Bool
is_word bytes =
    nat_le 1 (length bytes) && (nat_le (length bytes) 24 && (not (slice_index bytes 0 == 45) && list_all (λ b. nat_le 33 b && nat_le b 126) bytes))

-- there are 1 to 19 words, each of that form
abbrev pub are_words : List (List ℕ) → Bool
are_words words = nat_le 1 (length words) && (nat_le (length words) 19 && list_all is_word words)

-- the number that the word spells in decimal, where it spells one of at most `most`
abbrev pub number_word : ℕ → List ℕ → Option ℕ
number_word most word = if is_numeral word && nat_le (digits_value 10 word) most then Some (digits_value 10 word) else None

-- A word gives a number just where it is the number's decimal text and the number isn't above the greatest.
abbrev pub NumberWordsAreDecimals : Type 0
NumberWordsAreDecimals = (most : ℕ) → most < 2 ^ 64 → (word : List ℕ) (n : ℕ) → (number_word most word ≡ Some n) ↔ ((word ≡ decimal n) × (n ≤ most))

-- a seed
abbrev pub seed_word : List ℕ → Option ℕ
seed_word = number_word (2 ^ 64 - 1)

-- a number of turns
abbrev pub turns_word : List ℕ → Option ℕ
turns_word = number_word 10000

-- a size of what is made
abbrev pub size_word : List ℕ → Option ℕ
size_word word = option_and_then (λ n. if nat_le 2 n then Some n else None) (number_word 64 word)

-- the start values that the words spell, each a number of at most six digits
abbrev pub start_words : List (List ℕ) → Option (List ℕ)
start_words [] = Some []
start_words (word ∷ rest) = option_and_then (λ n. option_map (λ ns. n ∷ ns) (start_words rest)) (number_word 999999 word)

-- how many words stand behind the name of a command: the fewest and the most
abbrev pub counts_behind : List ℕ → Option (ℕ × ℕ)
counts_behind name =
    if bytes_eq name (codes "check") then Some (0, 0) else
    if bytes_eq name (codes "reduce") then Some (0, 0) else
    if bytes_eq name (codes "replay") then Some (0, 0) else
    if bytes_eq name (codes "ask") then Some (1, 16) else
    if bytes_eq name (codes "run") then Some (1, 16) else
    if bytes_eq name (codes "node") then Some (3, 18) else
    if bytes_eq name (codes "make") then Some (1, 1) else
    None

abbrev pub is_between : Option (ℕ × ℕ) → ℕ → Bool
is_between None n = false
is_between (Some counts) n = nat_le counts.0 n && nat_le n counts.1

-- this many words may stand behind the name
abbrev pub takes_count : List ℕ → ℕ → Bool
takes_count name n = is_between (counts_behind name) n

abbrev pub node_words : List (List ℕ) → Option Command
node_words (seed ∷ turns ∷ starts) = option_and_then (λ s. option_and_then (λ t. option_map (λ ns. Node s t ns) (start_words starts)) (turns_word turns)) (seed_word seed)
node_words _ = None

abbrev pub make_words : List (List ℕ) → Option Command
make_words (size ∷ []) = option_map (λ n. Make n) (size_word size)
make_words _ = None

-- the command of the name, with the numbers that the words behind it spell
abbrev pub command_with : List ℕ → List (List ℕ) → Option Command
command_with name words =
    if bytes_eq name (codes "check") then Some Check else
    if bytes_eq name (codes "reduce") then Some Reduce else
    if bytes_eq name (codes "replay") then Some Replay else
    if bytes_eq name (codes "ask") then option_map (λ ns. Ask ns) (start_words words) else
    if bytes_eq name (codes "run") then option_map (λ ns. Run ns) (start_words words) else
    if bytes_eq name (codes "node") then node_words words else
    if bytes_eq name (codes "make") then make_words words else
    None

-- the command of the first word, where it takes the words behind it
abbrev pub command_named : List (List ℕ) → Option Command
command_named [] = None
command_named (name ∷ words) = if takes_count name (length words) then command_with name words else None

-- the command that the words say
abbrev pub command_of : List (List ℕ) → Option Command
command_of words = if are_words words then command_named words else None

-- an answer is what the words give, or `Words` where they give nothing, or want of memory
abbrev pub Gives : {A : Type 0} → Option A → Result A WordsAnswer → Type 0
Gives given result = MatchResult result (λ x. given ≡ Some x) (λ e. e ≡ BadWords → given ≡ None)
