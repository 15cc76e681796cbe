use Rattle.std.proofs.Common.{map, subst}
use Rattle.nego_data.specs.declared.joint_data.SizeFault.TheVariants.{ZeroSize, SizeTooLarge, JointTooLarge}
use Rattle.nego_data.specs.Sizes.{HasFault}
use Rattle.nego_reader.specs.declared.parsed.PAgent.{PAgent}
use Rattle.nego_shape.proofs.SizesListed.{found_fault}
use Rattle.nego_shape.proofs.checks.sizes.told.Goals as goal

pub returns-in-ZeroSize : goal.returns-in-ZeroSize
returns-in-ZeroSize c = found_fault c.args.p.now (ZeroSize c.in-ZeroSize.a) c.fault_of.result (subst (HasFault (map (λ (agent : PAgent). agent.size) c.args.p.now.agents)) c.in-ZeroSize.is c.requires) c.fault_of.ensures

pub returns-in-SizeTooLarge : goal.returns-in-SizeTooLarge
returns-in-SizeTooLarge c =
    found_fault c.args.p.now (SizeTooLarge c.in-SizeTooLarge.a) c.fault_of-in-SizeTooLarge.result (subst (HasFault (map (λ (agent : PAgent). agent.size) c.args.p.now.agents)) c.in-SizeTooLarge.is c.requires) c.fault_of-in-SizeTooLarge.ensures

pub returns-in-JointTooLarge : goal.returns-in-JointTooLarge
returns-in-JointTooLarge c =
    found_fault c.args.p.now (JointTooLarge c.in-JointTooLarge.a) c.fault_of-in-JointTooLarge.result (subst (HasFault (map (λ (agent : PAgent). agent.size) c.args.p.now.agents)) c.in-JointTooLarge.is c.requires) c.fault_of-in-JointTooLarge.ensures
