-- How far a set of joint data is from all of them.
use Rattle.std.specs.Prelude.{ℕ, not, List}
use Rattle.std.specs.List.{count_by, range_with_len}
use Rattle.nego_base.specs.Members.{is_in}

-- how many numbers below 1,024 a set lacks
unfoldable pub lacked : List ℕ → ℕ
lacked set = count_by (λ e. not (is_in e set)) (range_with_len 0 1024)
