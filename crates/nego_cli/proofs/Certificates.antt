-- What was read where a certificate was wanted.
use Rattle.std.proofs.Common.{◌≡◌, ◌∙◌, List, ℕ, sym, ap, subst}
use Rattle.nego_cert.specs.declared.cert.Cert.{Cert}
use Rattle.nego_cert.specs.Table.{SpellsCertificate}
use Rattle.nego_cert.proofs.CertificateTexts.{spelled_once, spelled_sound, first_fault_once}
use Rattle.nego_cli.specs.declared.failure.PartName.TheVariants as parts
use Rattle.nego_cli.specs.declared.failure.Refusal.{Refusal}
use Rattle.nego_cli.specs.declared.failure.Refusal.TheVariants as refusals
use Rattle.nego_cli.specs.Parts.{Read, ReadPart, ReadTooLong, ReadNoEnd}
use Rattle.nego_cli.specs.Loading.{HasNoCertificate, IsNoCertificate}
use Rattle.nego_cli.specs.Refusals.{IsNamed}
use Rattle.nego_cli.proofs.Loaded.{IsKind}

-- the certificate that a text spells is one
one_certificate : (text : List ℕ) (c e : Cert) → SpellsCertificate text c → SpellsCertificate text e → c ≡ e
one_certificate text c e s t = spelled_once text c e s t

-- a text that has no certificate spells none
no_certificate_not : (text : List ℕ) (why : Refusal) (c : Cert) → HasNoCertificate text why → SpellsCertificate text c → ⊥
no_certificate_not text why c (fault, is, first) spelled = spelled_sound text c fault spelled first

-- the reason that what was read is no certificate is one
no_certificate_once : (read : Read) (why other : Refusal) → IsNoCertificate read why → IsNoCertificate read other → why ≡ other
no_certificate_once (ReadPart text) why other (fault, is, first) (fault', is', first') = is ∙ (ap (refusals.Off parts.Certificate) (first_fault_once text fault fault' first first') ∙ sym is')
no_certificate_once ReadTooLong why other h k = h ∙ sym k
no_certificate_once (ReadNoEnd line) why other h k = h ∙ sym k

-- what is named where there is no certificate is there
no_certificate_named : (read : Read) (why : Refusal) → IsNoCertificate read why → IsNamed why
no_certificate_named (ReadPart text) why (fault, is, first) = subst IsNamed (sym is) tt
no_certificate_named ReadTooLong why h = subst IsNamed (sym h) tt
no_certificate_named (ReadNoEnd line) why h = subst IsNamed (sym h) tt

pub certificates : IsKind SpellsCertificate IsNoCertificate
certificates = record { one_value = one_certificate; not_both = no_certificate_not; one_reason = no_certificate_once; named = no_certificate_named }
