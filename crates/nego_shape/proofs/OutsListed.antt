-- The faults of outcomes, listed.
use Rattle.std.proofs.Common.{arith}
use Rattle.nego_reader.specs.declared.parsed.Parsed.{Parsed}
use Rattle.nego_shape.specs.Conditions.{FewOutcomes, AllDeclared, AllSent, NoStranger, LastEnds, PartiesAlone, NoLargeValue, AllCovered}
use Rattle.nego_shape.proofs.OutsRising.{rising_all_sent, rising_no_stranger, rising_last_ends, rising_parties_alone, rising_no_large_value, rising_all_covered, rising_few_outcomes}
use Rattle.nego_shape.proofs.RuleLists.{clear_all_sent, clear_no_stranger, clear_last_ends, clear_parties_alone, clear_no_large_value, clear_all_covered, clear_few_outcomes, empty_all_sent, empty_no_stranger, empty_last_ends, empty_parties_alone, empty_no_large_value, empty_all_covered, empty_few_outcomes}
use Rattle.nego_shape.proofs.Search.{IsListed}

module _ (p : Parsed) where
  pub few_outcomes_listed : IsListed p FewOutcomes
  few_outcomes_listed = record { clear = λ met. clear_few_outcomes p; empty = λ met. empty_few_outcomes p; rises = rising_few_outcomes p }

  pub all_sent_listed : IsListed p AllSent
  all_sent_listed = record { clear = λ met. clear_all_sent p; empty = λ met. empty_all_sent p; rises = rising_all_sent p }

  pub no_stranger_listed : IsListed p NoStranger
  no_stranger_listed = record { clear = λ met. clear_no_stranger p (met AllDeclared (omega arith)); empty = λ met. empty_no_stranger p; rises = rising_no_stranger p }

  pub last_ends_listed : IsListed p LastEnds
  last_ends_listed = record { clear = λ met. clear_last_ends p; empty = λ met. empty_last_ends p; rises = rising_last_ends p }

  pub parties_alone_listed : IsListed p PartiesAlone
  parties_alone_listed = record { clear = λ met. clear_parties_alone p (met AllDeclared (omega arith)); empty = λ met. empty_parties_alone p; rises = rising_parties_alone p }

  pub no_large_value_listed : IsListed p NoLargeValue
  no_large_value_listed = record { clear = λ met. clear_no_large_value p (met AllDeclared (omega arith)); empty = λ met. empty_no_large_value p; rises = rising_no_large_value p }

  pub all_covered_listed : IsListed p AllCovered
  all_covered_listed = record { clear = λ met. clear_all_covered p; empty = λ met. empty_all_covered p; rises = rising_all_covered p }
