-- Joint data: a value for each agent, numbered so that the first agent is the most significant.
use Rattle.std.specs.Prelude.{ℕ, ◌+◌, ◌*◌, ◌/◌, ◌%◌, List, [], ◌∷◌}

-- how many joint data there are: the product of the sizes
abbrev pub data_count : List ℕ → ℕ
data_count [] = 1
data_count (size ∷ sizes) = size * data_count sizes

-- the values of the agents in joint data
abbrev pub split : List ℕ → ℕ → List ℕ
split [] d = []
split (size ∷ sizes) d = (d / data_count sizes) ∷ split sizes (d % data_count sizes)

-- the number of the joint data with these values
abbrev pub joint : List ℕ → List ℕ → ℕ
joint [] values = 0
joint (size ∷ sizes) [] = 0
joint (size ∷ sizes) (value ∷ values) = value * data_count sizes + joint sizes values
