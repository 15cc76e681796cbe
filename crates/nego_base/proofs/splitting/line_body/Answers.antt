use Rattle.std.proofs.Common.{◌≡◌, ◌≢◌, ℕ, List, [], ◌∷◌, ◌++◌, Option, Some, None, MatchOption, Bor, sym, ◌∙◌, ap}
use Rattle.std.specs.Option.{unwrap_or}
use Rattle.std.proofs.lemmas.Bool.Decides.{Decides-eqb}
use Rattle.std.proofs.lemmas.Slice.Eq.{strip_suffix_is}
use Rattle.nego_base.specs.Lines.{without_end}
use Rattle.nego_base.proofs.LineLaws.{without_end_none, without_end_newline, without_end_both}
use Rattle.nego_base.proofs.splitting.line_body.Goals as goal

-- a line with its newline, less one carriage return where one stands at its end
without_return : (line : List ℕ) (body : Bor (List ℕ)) (r : Option (Bor (List ℕ))) → line ≡ body.now ++ 10 ∷ [] →
    MatchOption r ((front : List ℕ) → body.now ≢ front ++ 13 ∷ []) (λ x. body.now ≡ x.now ++ 13 ∷ []) → (unwrap_or r body).now ≡ without_end line
without_return line body None is_line none = sym (ap without_end is_line ∙ without_end_newline body.now none)
without_return line body (Some x) is_line ends = sym (ap without_end (is_line ∙ ap (λ t. t ++ 10 ∷ []) ends) ∙ without_end_both x.now)

pub returns-in_default-clause-body : goal.returns-in_default-clause-body
returns-in_default-clause-body c =
    sym (without_end_none c.args.line.now (strip_suffix_is Decides-eqb c.args.line.now (10 ∷ []) None c.in_default.ensures.cases))

pub returns-clause-body : goal.returns-clause-body
returns-clause-body c =
    let body = c.in-Some.body in
    let is_line = strip_suffix_is Decides-eqb c.args.line.now (10 ∷ []) (Some body) c.in-Some.ensures.cases in
    let r = c.strip_suffix-2.result in
    rw c.unwrap_or.ensures (without_return c.args.line.now body r is_line (strip_suffix_is Decides-eqb body.now (13 ∷ []) r c.strip_suffix-2.ensures.cases))
