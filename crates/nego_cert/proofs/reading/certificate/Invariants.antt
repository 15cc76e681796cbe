use Rattle.std.proofs.Common.{drop, [], ◌∷◌}
use Rattle.nego_base.specs.LineGrammar.{missing_end}
use Rattle.nego_cert.specs.declared.row.Kind.TheVariants as kinds
use Rattle.nego_cert.specs.Reading.{walk}
use Rattle.nego_cert.proofs.CertificateWalk.{SoFar}
use Rattle.nego_cert.proofs.reading.certificate.Given as goal

-- the lines so far said the uses so far
abbrev pub invariant-loop-line : goal.invariant-loop-line
invariant-loop-line l = SoFar (walk (missing_end l.count) l.may (drop l.line-index l.lines)) (walk (missing_end l.count) (kinds.Header ∷ []) l.lines) l.uses
