-- Shares that are read of bytes.
use Rattle.std.proofs.Common.{◌≡◌, ◌≢◌, ℕ, ◌+◌, ◌-◌, ◌*◌, ◌<◌, ◌≤◌, ◌||◌, Bool, true, false, List, [], ◌∷◌, ◌++◌, length, map, set, take, drop, replicate, flat_map, refl, sym, ◌∙◌, ap, subst, arith, All, get_or, get_or-set_same, get_or-set_other, length-set, length-append, append_assoc, Option, Some, eqb, eq-eqb}
use Rattle.std.proofs.lemmas.Bool.{false≢true}
use Rattle.std.proofs.lemmas.List.{append-nil, map-append, take_at, length-map}
use Rattle.std.proofs.lemmas.List.Elements.{All-nil, All-cons, All-head, All-tail}
use Rattle.std.proofs.lemmas.Option.{same_Some}
use Rattle.nego_base.specs.Members.{is_in, with_member, RisesFrom, IsRisingBelow}
use Rattle.nego_base.proofs.Members.{is_in-with, with-last, length-below}
use Rattle.agent_msg.specs.Records.{Share, PlainRecord, Moved, Decided, share, ZeroElsewhere}
use Rattle.agent_msg.specs.Bytes.{low_byte, share_bytes, tail_bytes, ShareFits, SharesFit, SpellsRecord}
use Rattle.agent_msg.specs.Shares.{shares_of, with_share}
use Rattle.agent_msg.specs.declared.shares.Shares.{Shares}
use Rattle.agent_msg.proofs.ShareLaws.{IsReading, All-back, agents-shares}

-- numbers before one of a rising list are less
rises-before : (low x : ℕ) (xs ys : List ℕ) → RisesFrom low (xs ++ x ∷ ys) → (low ≤ x) × All (λ y. y < x) xs
rises-before low x [] ys h = (h.0, All-nil (λ y. y < x))
rises-before low x (y ∷ xs) ys h =
    let rest = rises-before (y + 1) x xs ys h.1 in
    (omega (arith, h.0, rest.0), All-cons (λ z. z < x) y xs (omega (arith, rest.0)) rest.1)

-- the shares of lesser parties don't change with one more
shares-set : (visits afters parties : List ℕ) (a visit after : ℕ) → All (λ p. p < a) parties → map (share (set visits a visit) (set afters a after)) parties ≡ map (share visits afters) parties
shares-set visits afters [] a visit after below = refl
shares-set visits afters (p ∷ parties) a visit after below =
    let less : p < a = All-head (λ q. q < a) p parties below in
    let other : p ≢ a = λ e. omega (arith, less, e) in
    rw (get_or-set_other visits a p visit 0 other, get_or-set_other afters a p after 0 other, shares-set visits afters parties a visit after (All-tail (λ q. q < a) p parties below)) refl

-- one more share than those of the parties
pub shares-with : (s : Shares) (x : Share) (back : List Share) → length s.visits ≡ 16 → length s.afters ≡ 16 → SharesFit (shares_of s ++ x ∷ back) →
    shares_of (with_share x.agent x.visit x.after s) ≡ shares_of s ++ x ∷ []
shares-with s x back visits afters fit =
    let agents : map (λ (y : Share). y.agent) (shares_of s ++ x ∷ back) ≡ s.parties ++ x.agent ∷ map (λ (y : Share). y.agent) back =
    map-append (λ (y : Share). y.agent) (shares_of s) (x ∷ back) ∙ ap (λ (l : List ℕ). l ++ x.agent ∷ map (λ (y : Share). y.agent) back) (agents-shares s.visits s.afters s.parties) in
    let rising : IsRisingBelow 16 (s.parties ++ x.agent ∷ map (λ (y : Share). y.agent) back) = subst (λ (l : List ℕ). IsRisingBelow 16 l) agents fit.parties in
    let below : All (λ y. y < x.agent) s.parties = (rises-before 0 x.agent s.parties (map (λ (y : Share). y.agent) back) rising.rising).1 in
    let small : x.agent < 16 = All-back (λ y. y < 16) s.parties x.agent (map (λ (y : Share). y.agent) back) rising.below in
    let V' : ℕ → Share = share (set s.visits x.agent x.visit) (set s.afters x.agent x.after) in
    let is_x : V' x.agent ≡ x = rw (get_or-set_same s.visits x.agent x.visit 0 (omega (arith, small, visits)), get_or-set_same s.afters x.agent x.after 0 (omega (arith, small, afters))) refl in
    ap (λ (l : List ℕ). map V' l) (with-last x.agent s.parties below)
    ∙ (map-append V' s.parties (x.agent ∷ [])
    ∙ (ap (λ (l : List Share). l ++ V' x.agent ∷ []) (shares-set s.visits s.afters s.parties x.agent x.visit x.after below) ∙ ap (λ (y : Share). shares_of s ++ y ∷ []) is_x))

or_false : (x y : Bool) → (x || y) ≡ false → y ≡ false
or_false true y h = absurd (false≢true (sym h))
or_false false y h = h

-- tables stay zero elsewhere with one more party
pub tidy-with : (s : Shares) (a visit after : ℕ) → ZeroElsewhere s.parties s.visits s.afters → ZeroElsewhere (with_member a s.parties) (set s.visits a visit) (set s.afters a after)
tidy-with s a visit after tidy = record {
  visits_zero = λ b none. get_or-set_other s.visits a b visit 0 (other b none) ∙ tidy.visits_zero b (before b none);
  afters_zero = λ b none. get_or-set_other s.afters a b after 0 (other b none) ∙ tidy.afters_zero b (before b none);
}
  where
    parts : (b : ℕ) → is_in b (with_member a s.parties) ≡ false → (eqb a b || is_in b s.parties) ≡ false
    parts b none = sym (is_in-with b a s.parties) ∙ none

    other : (b : ℕ) → is_in b (with_member a s.parties) ≡ false → b ≢ a
    other b none e = false≢true (sym (parts b none) ∙ ap (λ (v : Bool). v || is_in b s.parties) (eq-eqb a b (sym e)))

    before : (b : ℕ) → is_in b (with_member a s.parties) ≡ false → is_in b s.parties ≡ false
    before b none = or_false (eqb a b) (is_in b s.parties) (parts b none)

-- four bytes are a share
pub share-read : (x : Share) (back : List Share) (rest : List ℕ) → ShareFits x → x.agent < 16 → rest ≡ flat_map share_bytes (x ∷ back) →
    (get_or rest 0 0 ≡ x.agent) × (256 * get_or rest 1 0 + get_or rest 2 0 ≡ x.visit) × (get_or rest 3 0 ≡ x.after) × (drop 4 rest ≡ flat_map share_bytes back)
share-read x back rest fits small e = rw e (omega (arith, small), omega (arith, fits.visit), omega (arith, fits.after), refl)

-- a share among others is within its bounds
pub next-fits : (front : List Share) (x : Share) (back : List Share) → SharesFit (front ++ x ∷ back) → (x.agent < 16) × ShareFits x
next-fits front x back fit =
    let agent : Share → ℕ = λ y. y.agent in (
      All-back (λ y. y < 16) (map agent front) x.agent (map agent back) (subst (λ (l : List ℕ). All (λ y. y < 16) l) (map-append agent front (x ∷ back)) fit.parties.below),
      All-back ShareFits front x back fit.each,
    )

-- one more share was read
pub reading-goes_on : (bytes rest : List ℕ) (s : Shares) (a visit after : ℕ) → IsReading bytes s rest → 4 ≤ length rest →
    a ≡ get_or rest 0 0 → visit ≡ 256 * get_or rest 1 0 + get_or rest 2 0 → after ≡ get_or rest 3 0 → IsReading bytes (with_share a visit after s) (drop 4 rest)
reading-goes_on bytes rest s a visit after reading long is_a is_visit is_after = record {
  tidy = tidy-with s a visit after reading.tidy;
  all_visits = length-set s.visits a visit ∙ reading.all_visits;
  all_afters = length-set s.afters a after ∙ reading.all_afters;
  found = λ shares fit e. let f = reading.found shares fit e in next f.0 shares fit f.1.0 f.1.1;
}
  where
    next : (back : List Share) (shares : List Share) → SharesFit shares → shares ≡ shares_of s ++ back → rest ≡ flat_map share_bytes back →
        (more : List Share) × ((shares ≡ shares_of (with_share a visit after s) ++ more) × (drop 4 rest ≡ flat_map share_bytes more))
    next [] shares fit split is = absurd (let none : length rest ≡ 0 = ap (λ (l : List ℕ). length l) is in omega (arith, none, long))
    next (x ∷ back) shares fit split is =
        let fits : SharesFit (shares_of s ++ x ∷ back) = subst SharesFit split fit in
        let small = next-fits (shares_of s) x back fits in
        let read = share-read x back rest small.1 small.0 is in
        let same : shares_of (with_share a visit after s) ≡ shares_of s ++ x ∷ [] =
        rw (is_a ∙ read.0, is_visit ∙ read.1, is_after ∙ read.2) (shares-with s x back reading.all_visits reading.all_afters fits) in
        (back, (split ∙ (sym (append_assoc (shares_of s) (x ∷ []) back) ∙ ap (λ (l : List Share). l ++ back) (sym same)), read.3))

-- an agent from 16 on is in no share
pub reading-stops : (bytes rest : List ℕ) (s : Shares) → IsReading bytes s rest → 4 ≤ length rest → 16 ≤ get_or rest 0 0 → (shares : List Share) → SharesFit shares → bytes ≡ flat_map share_bytes shares → ⊥
reading-stops bytes rest s reading long above shares fit e = let f = reading.found shares fit e in none f.0 f.1.0 f.1.1
  where
    none : (back : List Share) → shares ≡ shares_of s ++ back → rest ≡ flat_map share_bytes back → ⊥
    none [] split is = let empty : length rest ≡ 0 = ap (λ (l : List ℕ). length l) is in omega (arith, empty, long)
    none (x ∷ back) split is =
        let small = next-fits (shares_of s) x back (subst SharesFit split fit) in
        let read = share-read x back rest small.1 small.0 is in
        omega (arith, small.0, read.0, above)

-- fewer bytes are no share
pub reading-ends : (bytes rest : List ℕ) (s : Shares) → IsReading bytes s rest → length rest < 4 → (shares : List Share) → SharesFit shares → bytes ≡ flat_map share_bytes shares → shares_of s ≡ shares
reading-ends bytes rest s reading short shares fit e = let f = reading.found shares fit e in ends f.0 f.1.0 f.1.1
  where
    ends : (back : List Share) → shares ≡ shares_of s ++ back → rest ≡ flat_map share_bytes back → shares_of s ≡ shares
    ends [] split is = sym (split ∙ append-nil (shares_of s))
    ends (x ∷ back) split is = absurd (let long = ap (λ (l : List ℕ). length l) is in omega (arith, long, short))

-- what the number of shares and the bytes behind it are
pub counted : (count : ℕ) (rest : List ℕ) (shares : List Share) → SharesFit shares → count ∷ rest ≡ tail_bytes shares → (4 * count ≤ length rest) × (take (4 * count) rest ≡ flat_map share_bytes shares)
counted count rest shares fit e =
    let agent : Share → ℕ = λ y. y.agent in
    let zeros : List ℕ = replicate (121 - 4 * length shares) 0 in
    let few : length shares ≤ 16 = let below = length-below 16 (map agent shares) fit.parties in omega (arith, below, length-map shares agent) in
    let number : count ≡ length shares = let head : count ≡ low_byte (length shares) = ap (λ (l : List ℕ). get_or l 0 0) e in omega (arith, head, few) in
    let behind : rest ≡ flat_map share_bytes shares ++ zeros = ap (λ (l : List ℕ). drop 1 l) e in
    let long : length (flat_map share_bytes shares) ≡ 4 * count = let n = length-shares shares in omega (arith, n, number) in (
      let all = ap (λ (l : List ℕ). length l) behind ∙ length-append (flat_map share_bytes shares) zeros in omega (arith, all, long),
      ap (λ (l : List ℕ). take (4 * count) l) behind ∙ take_at (flat_map share_bytes shares) zeros (4 * count) long,
    )
  where
    length-shares : (xs : List Share) → length (flat_map share_bytes xs) ≡ 4 * length xs
    length-shares [] = refl
    length-shares (x ∷ xs) = length-append (share_bytes x) (flat_map share_bytes xs) ∙ (let more = length-shares xs in omega (arith, more))

-- the first bytes of a decision
pub decision-read : (bytes : List ℕ) (atom outcome : ℕ) (shares : List Share) → SpellsRecord bytes (Decided atom outcome shares) →
    (get_or bytes 0 0 ≡ 2) × (256 * get_or bytes 1 0 + get_or bytes 2 0 ≡ atom) × (256 * get_or bytes 3 0 + get_or bytes 4 0 ≡ outcome) × (get_or bytes 5 0 ∷ drop 6 bytes ≡ tail_bytes shares)
decision-read bytes atom outcome shares spells =
    rw spells.same (refl, omega (arith, spells.fits.atom_fits), omega (arith, spells.fits.outcome_fits), refl)

pub move-read : (bytes : List ℕ) (atom outcome after : ℕ) → SpellsRecord bytes (Moved atom outcome after) → get_or bytes 0 0 ≡ 1
move-read bytes atom outcome after spells = rw spells.same refl

-- a decision that was read is the entry that the bytes spell
pub decision-is : (bytes : List ℕ) (a o : ℕ) (ss : List Share) → get_or bytes 0 0 ≢ 1 → a ≡ 256 * get_or bytes 1 0 + get_or bytes 2 0 → o ≡ 256 * get_or bytes 3 0 + get_or bytes 4 0 →
    ((shares : List Share) → SharesFit shares → get_or bytes 5 0 ∷ drop 6 bytes ≡ tail_bytes shares → ◌≡◌ {A = Option (List Share)} (Some ss) (Some shares)) →
    (e : PlainRecord) → SpellsRecord bytes e → ◌≡◌ {A = Option PlainRecord} (Some (Decided a o ss)) (Some e)
decision-is bytes a o ss kind is_a is_o found (Moved atom outcome after) spells = absurd (kind (move-read bytes atom outcome after spells))
decision-is bytes a o ss kind is_a is_o found (Decided atom outcome shares) spells =
    let read = decision-read bytes atom outcome shares spells in
    let same : ss ≡ shares = same_Some ss shares (found shares spells.fits.shares_fit read.3) in
    rw (is_a ∙ read.1, is_o ∙ read.2, same) refl
