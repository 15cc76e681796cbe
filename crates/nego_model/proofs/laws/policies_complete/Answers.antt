use Rattle.nego_model.proofs.completeness.Paths.{same_paths, none_twice}
use Rattle.nego_model.proofs.completeness.Policies.{completed}
use Rattle.nego_model.proofs.completeness.Nearest.{nearest}
use Rattle.nego_model.proofs.laws.policies_complete.Goals as goal

pub returns-clause-exists : goal.returns-clause-exists
returns-clause-exists c = nearest

pub returns-clause-completes : goal.returns-clause-completes
returns-clause-completes c = λ nego policy run marking ok single sound leads. completed nego ok single policy sound marking (record { steps = run; leads = leads })

pub returns-clause-once : goal.returns-clause-once
returns-clause-once c = λ nego choice run steps marking ok single leads done. none_twice nego ok single choice steps marking (record { steps = run; leads = leads }) done

pub returns-clause-paths : goal.returns-clause-paths
returns-clause-paths c = λ nego choice run run' steps steps' marking marking' a ok single below leads leads' done done' same.
    same_paths nego ok single choice a below marking marking' steps steps' (record { steps = run; leads = leads }) (record { steps = run'; leads = leads' }) done done' same
