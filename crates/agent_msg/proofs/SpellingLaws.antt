-- Bytes spell one message, and one record, at most.
use Rattle.std.proofs.Common.{◌≡◌, ℕ, ◌+◌, ◌*◌, ◌<◌, List, [], ◌∷◌, map, drop, flat_map, refl, sym, ◌∙◌, ap, arith, All, get_or}
use Rattle.std.proofs.lemmas.List.Elements.{All-head, All-tail}
use Rattle.agent_msg.specs.Messages.{Message, ReadyOf, DecideOf, ReadyMessage, DecideMessage}
use Rattle.agent_msg.specs.Records.{Share, PlainRecord, Moved, Decided}
use Rattle.agent_msg.specs.Bytes.{share_bytes, ShareFits, SpellsRecord, SpellsMessage}
use Rattle.agent_msg.proofs.ReadingLaws.{share-read, counted, decision-read, move-read}

-- shares with the same numbers are the same
share-same : (x y : Share) → x.agent ≡ y.agent → x.visit ≡ y.visit → x.after ≡ y.after → x ≡ y
share-same x y agents visits afters =
    let S : ℕ → ℕ → ℕ → Share = λ agent visit after. record { agent = agent; visit = visit; after = after } in
    ap (λ (n : ℕ). S n x.visit x.after) agents ∙ (ap (λ (n : ℕ). S y.agent n x.after) visits ∙ ap (λ (n : ℕ). S y.agent y.visit n) afters)

-- bytes are the shares of one list at most
shares-once : (rest : List ℕ) (xs ys : List Share) → All ShareFits xs → All (λ a. a < 16) (map (λ s. s.agent) xs) → All ShareFits ys → All (λ a. a < 16) (map (λ s. s.agent) ys) →
    rest ≡ flat_map share_bytes xs → rest ≡ flat_map share_bytes ys → xs ≡ ys
shares-once rest [] [] fit small fit_ys small_ys is is_ys = refl
shares-once rest [] (y ∷ ys) fit small fit_ys small_ys is is_ys = absurd (cc (sym is ∙ is_ys))
shares-once rest (x ∷ xs) [] fit small fit_ys small_ys is is_ys = absurd (cc (sym is_ys ∙ is))
shares-once rest (x ∷ xs) (y ∷ ys) fit small fit_ys small_ys is is_ys =
    let agent : Share → ℕ = λ s. s.agent in
    let of_x = share-read x xs rest (All-head ShareFits x xs fit) (All-head (λ a. a < 16) x.agent (map agent xs) small) is in
    let of_y = share-read y ys rest (All-head ShareFits y ys fit_ys) (All-head (λ a. a < 16) y.agent (map agent ys) small_ys) is_ys in
    let first : x ≡ y = share-same x y (sym of_x.0 ∙ of_y.0) (sym of_x.1 ∙ of_y.1) (sym of_x.2 ∙ of_y.2) in
    let more : xs ≡ ys =
    shares-once (drop 4 rest) xs ys
    (All-tail ShareFits x xs fit) (All-tail (λ a. a < 16) x.agent (map agent xs) small)
    (All-tail ShareFits y ys fit_ys) (All-tail (λ a. a < 16) y.agent (map agent ys) small_ys) of_x.3 of_y.3 in
    ap (λ (s : Share). s ∷ xs) first ∙ ap (λ (l : List Share). y ∷ l) more

-- the numbers of a move
move-numbers : (bytes : List ℕ) (atom outcome after : ℕ) → SpellsRecord bytes (Moved atom outcome after) →
    (256 * get_or bytes 1 0 + get_or bytes 2 0 ≡ atom) × (256 * get_or bytes 3 0 + get_or bytes 4 0 ≡ outcome) × (get_or bytes 5 0 ≡ after)
move-numbers bytes atom outcome after spells =
    rw spells.same (omega (arith, spells.fits.atom_fits), omega (arith, spells.fits.outcome_fits), omega (arith, spells.fits.after_fits))

-- bytes spell one record at most
pub record-once : (bytes : List ℕ) (e other : PlainRecord) → SpellsRecord bytes e → SpellsRecord bytes other → e ≡ other
record-once bytes (Moved atom outcome after) (Moved atom2 outcome2 after2) spells spells2 =
    let one = move-numbers bytes atom outcome after spells in
    let two = move-numbers bytes atom2 outcome2 after2 spells2 in
    rw (sym one.0 ∙ two.0, sym one.1 ∙ two.1, sym one.2 ∙ two.2) refl
record-once bytes (Moved atom outcome after) (Decided atom2 outcome2 shares2) spells spells2 =
    absurd (let one = move-read bytes atom outcome after spells in let two = decision-read bytes atom2 outcome2 shares2 spells2 in omega (arith, one, two.0))
record-once bytes (Decided atom outcome shares) (Moved atom2 outcome2 after2) spells spells2 =
    absurd (let one = decision-read bytes atom outcome shares spells in let two = move-read bytes atom2 outcome2 after2 spells2 in omega (arith, one.0, two))
record-once bytes (Decided atom outcome shares) (Decided atom2 outcome2 shares2) spells spells2 =
    let one = decision-read bytes atom outcome shares spells in
    let two = decision-read bytes atom2 outcome2 shares2 spells2 in
    let count : ℕ = get_or bytes 5 0 in
    let fit = spells.fits.shares_fit in
    let fit2 = spells2.fits.shares_fit in
    let same : shares ≡ shares2 =
    shares-once _ shares shares2 fit.each fit.parties.below fit2.each fit2.parties.below (counted count (drop 6 bytes) shares fit one.3).1 (counted count (drop 6 bytes) shares2 fit2 two.3).1 in
    rw (sym one.1 ∙ two.1, sym one.2 ∙ two.2, same) refl

-- ready messages with the same numbers are the same
ready-same : (x y : ReadyMessage) → x.from ≡ y.from → x.to ≡ y.to → x.atom ≡ y.atom → x.visit ≡ y.visit → x.value ≡ y.value → x ≡ y
ready-same x y froms tos atoms visits values =
    let R : ℕ → ℕ → ℕ → ℕ → ℕ → ReadyMessage = λ a b c d e. record { from = a; to = b; atom = c; visit = d; value = e } in
    ap (λ (n : ℕ). R n x.to x.atom x.visit x.value) froms
    ∙ (ap (λ (n : ℕ). R y.from n x.atom x.visit x.value) tos
    ∙ (ap (λ (n : ℕ). R y.from y.to n x.visit x.value) atoms ∙ (ap (λ (n : ℕ). R y.from y.to y.atom n x.value) visits ∙ ap (λ (n : ℕ). R y.from y.to y.atom y.visit n) values)))

decide-same : (x y : DecideMessage) → x.from ≡ y.from → x.to ≡ y.to → x.atom ≡ y.atom → x.outcome ≡ y.outcome → x.visit ≡ y.visit → x.after ≡ y.after → x ≡ y
decide-same x y froms tos atoms outcomes visits afters =
    let D : ℕ → ℕ → ℕ → ℕ → ℕ → ℕ → DecideMessage = λ a b c d e f. record { from = a; to = b; atom = c; outcome = d; visit = e; after = f } in
    ap (λ (n : ℕ). D n x.to x.atom x.outcome x.visit x.after) froms
    ∙ (ap (λ (n : ℕ). D y.from n x.atom x.outcome x.visit x.after) tos
    ∙ (ap (λ (n : ℕ). D y.from y.to n x.outcome x.visit x.after) atoms
    ∙ (ap (λ (n : ℕ). D y.from y.to y.atom n x.visit x.after) outcomes
    ∙ (ap (λ (n : ℕ). D y.from y.to y.atom y.outcome n x.after) visits ∙ ap (λ (n : ℕ). D y.from y.to y.atom y.outcome y.visit n) afters))))

-- the numbers of a Ready, and of a Decide
ready-numbers : (bytes : List ℕ) (r : ReadyMessage) → SpellsMessage bytes (ReadyOf r) →
    (get_or bytes 1 0 ≡ 0x52) × (get_or bytes 2 0 ≡ r.from) × (get_or bytes 3 0 ≡ r.to) × (256 * get_or bytes 4 0 + get_or bytes 5 0 ≡ r.atom)
    × (256 * get_or bytes 6 0 + get_or bytes 7 0 ≡ r.visit) × (get_or bytes 8 0 ≡ r.value)
ready-numbers bytes r spells =
    let fits = spells.fits in
    rw spells.same (refl, omega (arith, fits.from), omega (arith, fits.to), omega (arith, fits.atom), omega (arith, fits.visit), omega (arith, fits.value))

decide-numbers : (bytes : List ℕ) (d : DecideMessage) → SpellsMessage bytes (DecideOf d) →
    (get_or bytes 1 0 ≡ 0x44) × (get_or bytes 2 0 ≡ d.from) × (get_or bytes 3 0 ≡ d.to) × (256 * get_or bytes 4 0 + get_or bytes 5 0 ≡ d.atom)
    × (256 * get_or bytes 6 0 + get_or bytes 7 0 ≡ d.visit) × (256 * get_or bytes 8 0 + get_or bytes 9 0 ≡ d.outcome) × (get_or bytes 10 0 ≡ d.after)
decide-numbers bytes d spells =
    let fits = spells.fits in
    rw spells.same (refl, omega (arith, fits.from), omega (arith, fits.to), omega (arith, fits.atom), omega (arith, fits.visit), omega (arith, fits.outcome), omega (arith, fits.after))

-- bytes spell one message at most
pub message-once : (bytes : List ℕ) (m other : Message) → SpellsMessage bytes m → SpellsMessage bytes other → m ≡ other
message-once bytes (ReadyOf r) (ReadyOf r2) spells spells2 =
    let one = ready-numbers bytes r spells in
    let two = ready-numbers bytes r2 spells2 in
    ap ReadyOf (ready-same r r2 (sym one.1 ∙ two.1) (sym one.2 ∙ two.2) (sym one.3 ∙ two.3) (sym one.4 ∙ two.4) (sym one.5 ∙ two.5))
message-once bytes (ReadyOf r) (DecideOf d2) spells spells2 =
    absurd (let one = ready-numbers bytes r spells in let two = decide-numbers bytes d2 spells2 in omega (arith, one.0, two.0))
message-once bytes (DecideOf d) (ReadyOf r2) spells spells2 =
    absurd (let one = decide-numbers bytes d spells in let two = ready-numbers bytes r2 spells2 in omega (arith, one.0, two.0))
message-once bytes (DecideOf d) (DecideOf d2) spells spells2 =
    let one = decide-numbers bytes d spells in
    let two = decide-numbers bytes d2 spells2 in
    ap DecideOf (decide-same d d2 (sym one.1 ∙ two.1) (sym one.2 ∙ two.2) (sym one.3 ∙ two.3) (sym one.5 ∙ two.5) (sym one.4 ∙ two.4) (sym one.6 ∙ two.6))
