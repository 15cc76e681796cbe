-- What is promised of an answer that is no diagram.
use Rattle.std.specs.Prelude.{◌≡◌, ◌<◌, Option, Some, ⊤}
use Rattle.nego_data.specs.Data.{data_count}
use Rattle.nego_data.specs.Sizes.{AreSizes}
use Rattle.nego_reader.specs.declared.parsed.Parsed.{Parsed}
use Rattle.nego_reader.specs.Content.{content_of}
use Rattle.nego_shape.specs.declared.fault.ShapeFault.{ShapeFault}
use Rattle.nego_shape.specs.declared.fault.ShapeKind.{ShapeKind}
use Rattle.nego_shape.specs.declared.fault.ShapeKind.TheVariants as kinds
use Rattle.nego_shape.specs.declared.fault.ShapeAnswer.{ShapeAnswer}
use Rattle.nego_shape.specs.declared.fault.ShapeAnswer.TheVariants as answers
use Rattle.nego_shape.specs.FirstFault.{IsFirstFault}
use Rattle.nego_shape.specs.Naming.{sizes_in}
use Rattle.nego_shape.specs.Conditions.{HasShape}

-- the fault is this one; want of memory is free
abbrev pub Tells : ShapeAnswer → Option ShapeFault → Type 0
Tells answers.Memory fault = ⊤
Tells (answers.Off told) fault = fault ≡ Some told

-- the fault is the text's first
abbrev pub HasCause : ShapeAnswer → Parsed → Type 0
HasCause answers.Memory p = ⊤
HasCause (answers.Off fault) p = IsFirstFault p fault

-- the text hasn't the shape of a diagram; want of memory is free
abbrev pub LacksShape : ShapeAnswer → Parsed → Type 0
LacksShape answers.Memory p = ⊤
LacksShape (answers.Off told) p = ¬ HasShape (content_of p)

-- joint data that a fault tells are joint data of the text's sizes
abbrev pub AreJointIn : Parsed → ShapeKind → Type 0
AreJointIn p (kinds.NotTotal o d) = AreSizes (sizes_in (content_of p)) × (d < data_count (sizes_in (content_of p)))
AreJointIn p _ = ⊤

abbrev pub HasJoint : ShapeAnswer → Parsed → Type 0
HasJoint answers.Memory p = ⊤
HasJoint (answers.Off fault) p = AreJointIn p fault.kind
