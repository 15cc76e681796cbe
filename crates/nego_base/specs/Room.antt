-- A list that has room for more items.
use Rattle.std.specs.Prelude.{ℕ, List, refl}
use Rattle.std.specs.Coded.{Coded, code_by, coded×, coded_ℕ, coded_list}

-- its items, and for how many more there is room
pub record WithRoom (T : Type 0) : Type 0 where
  pub items : List T
  pub room : ℕ

-- such a list is stored as the pair of its fields
abbrev pub with_room_code : {T : Type 0} → Coded T → Coded (WithRoom T)
with_room_code {T} code =
    code_by (List T × ℕ) (coded× (coded_list code) coded_ℕ) (λ w. (w.items, w.room)) (λ p. record { items = p.0; room = p.1 }) (λ _. refl)
