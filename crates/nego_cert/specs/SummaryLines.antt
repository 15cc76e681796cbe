-- The lines of a summary, one after the other: of which kind each is, and which words it has.
use Rattle.std.specs.Prelude.{ℕ, List, [], ◌∷◌, map, codes, decimal}
use Rattle.nego_model.specs.Expression.{PlainNode, Base, Join, Then, Star}
use Rattle.nego_cert.specs.declared.summary_row.Form.{Form}
use Rattle.nego_cert.specs.declared.summary_row.Form.TheVariants as forms
use Rattle.nego_cert.specs.declared.summary_row.SummaryKind.{SummaryKind}
use Rattle.nego_cert.specs.declared.summary_row.SummaryKind.TheVariants as kinds

-- the first word of a line of the kind
abbrev pub keyword : SummaryKind → List ℕ
keyword kinds.Header = codes "summary"
keyword kinds.Node = codes "node"
keyword kinds.Final = codes "final"
keyword kinds.End = codes "end"

-- the kinds of lines that may follow: behind the header and nodes, nodes and final outcomes; behind a final outcome, another
-- one or the end
abbrev pub followers : SummaryKind → List SummaryKind
followers kinds.Header = kinds.Node ∷ kinds.Final ∷ []
followers kinds.Node = kinds.Node ∷ kinds.Final ∷ []
followers kinds.Final = kinds.Final ∷ kinds.End ∷ []
followers kinds.End = []

-- what is said of a node, and how many words its line has
abbrev pub form_word : Form → List ℕ
form_word forms.Base = codes "base"
form_word forms.Join = codes "join"
form_word forms.Then = codes "then"
form_word forms.Star = codes "star"

abbrev pub form_words : Form → ℕ
form_words forms.Base = 4
form_words forms.Join = 5
form_words forms.Then = 5
form_words forms.Star = 4

abbrev pub form_of : PlainNode → Form
form_of (Base o) = forms.Base
form_of (Join x y) = forms.Join
form_of (Then x y) = forms.Then
form_of (Star x) = forms.Star

-- the numbers behind it
abbrev pub numbers_of_node : PlainNode → List ℕ
numbers_of_node (Base o) = o ∷ []
numbers_of_node (Join x y) = x ∷ y ∷ []
numbers_of_node (Then x y) = x ∷ y ∷ []
numbers_of_node (Star x) = x ∷ []

-- the words of the line of a node of this number
abbrev pub node_line_words : ℕ → PlainNode → List (List ℕ)
node_line_words i node = codes "node" ∷ decimal i ∷ form_word (form_of node) ∷ map decimal (numbers_of_node node)

-- the words of the line of a final outcome
abbrev pub final_line_words : List ℕ → ℕ → List (List ℕ)
final_line_words name node = codes "final" ∷ name ∷ decimal node ∷ []
