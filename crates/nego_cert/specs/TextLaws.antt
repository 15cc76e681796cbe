-- The law of texts that spell values by a grammar, where each value has its rows.
use Rattle.std.specs.Prelude.{◌≡◌, ◌⊎◌, ℕ, List}
use Rattle.nego_base.specs.declared.fault.Fault.{Fault}
use Rattle.nego_base.specs.LineGrammar.{LineGrammar, IsTextOf, IsFirstFaultOf}

module _ {Known Kind Row Own Value : Type 0} (G : LineGrammar Known Kind Row Own) (rows_of : Value → List Row) where
  -- Each text spells one value or has one first fault, never both.
  pub record SpellOneOrHaveAFault : Type 0 where
    pub once : (bytes : List ℕ) (one two : Value) → IsTextOf G bytes (rows_of one) → IsTextOf G bytes (rows_of two) → one ≡ two
    pub either : (bytes : List ℕ) → ((value : Value) × IsTextOf G bytes (rows_of value)) ⊎ ((fault : Fault) × IsFirstFaultOf G bytes fault)
    pub apart : (bytes : List ℕ) (value : Value) (fault : Fault) → IsTextOf G bytes (rows_of value) → IsFirstFaultOf G bytes fault → ⊥
    pub fault_once : (bytes : List ℕ) (one two : Fault) → IsFirstFaultOf G bytes one → IsFirstFaultOf G bytes two → one ≡ two
