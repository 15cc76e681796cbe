-- How the program's nodes are seen.
use Rattle.nego_model.specs.Expression.{PlainNode, Base, Join, Then, Star}
use Rattle.nego_expr.specs.declared.node.Node.{Node}
use Rattle.nego_expr.specs.declared.node.Node.TheVariants as variants

-- a node, without the wrapping of its numbers
abbrev pub plain_node : Node → PlainNode
plain_node (variants.Base o) = Base o.0
plain_node (variants.Join x y) = Join x.0 y.0
plain_node (variants.Then x y) = Then x.0 y.0
plain_node (variants.Star x) = Star x.0
