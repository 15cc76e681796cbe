use Rattle.std.proofs.lemmas.Result.{IfErr-weaker}
use Rattle.nego_shape.specs.Answer.{HasCause, LacksShape, HasJoint}
use Rattle.nego_shape.proofs.JointLaws.{caused_joint, caused_lacks}
use Rattle.nego_shape.proofs.shaping.shape.Goals as goal

pub returns-clause-joint : goal.returns-clause-joint
returns-clause-joint c = IfErr-weaker c.shaped.result (λ e. HasCause e c.args.p.now) (λ e. HasJoint e c.args.p.now) (caused_joint c.args.p.now) c.shaped.ensures.err

pub returns-clause-misshapen : goal.returns-clause-misshapen
returns-clause-misshapen c = IfErr-weaker c.shaped.result (λ e. HasCause e c.args.p.now) (λ e. LacksShape e c.args.p.now) (caused_lacks c.args.p.now) c.shaped.ensures.err
