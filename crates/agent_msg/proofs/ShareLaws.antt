-- The shares of parties as bytes.
use Rattle.std.proofs.Common.{◌≡◌, ℕ, ◌+◌, ◌-◌, ◌*◌, ◌≤◌, List, [], ◌∷◌, ◌++◌, length, map, set, drop, replicate, flat_map, refl, sym, ◌∙◌, ap, subst, arith, All, length-append, append_assoc}
use Rattle.std.proofs.lemmas.List.{append-nil, map-append, take_at, drop_at, set_at, drop-replicate, length-map}
use Rattle.std.proofs.lemmas.List.Elements.{All-nil, All-push, All-head, All-tail}
use Rattle.std.proofs.lemmas.Grind.{flat_map-append}
use borrow.Rule.Slice.PartMut.{put_mid}
use Rattle.nego_base.specs.Members.{IsRisingBelow}
use Rattle.nego_base.proofs.Members.{length-below}
use Rattle.agent_msg.specs.Records.{Share, share, ZeroElsewhere}
use Rattle.agent_msg.specs.Bytes.{low_byte, share_bytes, tail_bytes, ShareFits, SharesFit}
use Rattle.agent_msg.specs.Shares.{shares_of}
use Rattle.agent_msg.specs.declared.shares.Shares.{Shares}

-- the bytes of these parties' shares
abbrev pub bytes_of : Shares → List ℕ → List ℕ
bytes_of s parties = flat_map share_bytes (map (share s.visits s.afters) parties)

-- what stands before the zeros once these shares are put
abbrev pub put_front : Shares → List ℕ → List ℕ → List ℕ
put_front s head done = head ++ low_byte (length s.parties) ∷ bytes_of s done

-- The shares of some parties stand in a record already; these are left.
pub record IsPutting (s : Shares) (before left : List ℕ) (at : ℕ) (bytes : List ℕ) : Type 0 where
  pub done : List ℕ
  pub split : s.parties ≡ done ++ left
  pub place : at ≡ 6 + 4 * length done
  pub put : (head : List ℕ) → length head ≡ 5 → before ≡ head ++ replicate 122 0 → bytes ≡ put_front s head done ++ replicate (121 - 4 * length done) 0

-- The shares of some parties are within their bounds; these are left.
pub record IsTesting (s : Shares) (left : List ℕ) : Type 0 where
  pub done : List ℕ
  pub split : s.parties ≡ done ++ left
  pub fit : All ShareFits (map (share s.visits s.afters) done)

-- Some shares were read of the bytes; these bytes are left.
pub record IsReading (bytes : List ℕ) (s : Shares) (rest : List ℕ) : Type 0 where
  pub tidy : ZeroElsewhere s.parties s.visits s.afters
  pub all_visits : length s.visits ≡ 16
  pub all_afters : length s.afters ≡ 16
  pub found : (shares : List Share) → SharesFit shares → bytes ≡ flat_map share_bytes shares →
      (back : List Share) × ((shares ≡ shares_of s ++ back) × (rest ≡ flat_map share_bytes back))

-- one more list item moves from the back to the front
pub moved : (xs ys zs : List ℕ) (x : ℕ) → xs ≡ ys ++ x ∷ zs → xs ≡ (ys ++ x ∷ []) ++ zs
moved xs ys zs x e = e ∙ sym (append_assoc ys (x ∷ []) zs)

-- at first no share stands there
pub putting-starts : (s : Shares) (before : List ℕ) (count : ℕ) → count ≡ low_byte (length s.parties) → IsPutting s before s.parties 6 (set before 5 count)
putting-starts s before count is = record {
  done = [];
  split = refl;
  place = refl;
  put = λ head five zeros.
      ap (λ (bytes : List ℕ). set bytes 5 count) zeros
      ∙ (set_at head 0 (replicate 121 0) count 5 five
      ∙ (ap (λ (n : ℕ). head ++ n ∷ replicate 121 0) is ∙ sym (append_assoc head (low_byte (length s.parties) ∷ []) (replicate 121 0))));
}

length-bytes_of : (s : Shares) (parties : List ℕ) → length (bytes_of s parties) ≡ 4 * length parties
length-bytes_of s [] = refl
length-bytes_of s (a ∷ parties) =
    length-append (share_bytes (share s.visits s.afters a)) (bytes_of s parties) ∙ (let more = length-bytes_of s parties in omega (arith, more))

bytes_of-push : (s : Shares) (done : List ℕ) (a : ℕ) → bytes_of s (done ++ a ∷ []) ≡ bytes_of s done ++ share_bytes (share s.visits s.afters a)
bytes_of-push s done a =
    ap (λ (shares : List Share). flat_map share_bytes shares) (map-append (share s.visits s.afters) done (a ∷ []))
    ∙ flat_map-append share_bytes (map (share s.visits s.afters) done) (share s.visits s.afters a ∷ [])

put_front-push : (s : Shares) (head done : List ℕ) (a : ℕ) → put_front s head (done ++ a ∷ []) ≡ put_front s head done ++ share_bytes (share s.visits s.afters a)
put_front-push s head done a =
    ap (λ (bytes : List ℕ). head ++ low_byte (length s.parties) ∷ bytes) (bytes_of-push s done a)
    ∙ sym (append_assoc head (low_byte (length s.parties) ∷ bytes_of s done) (share_bytes (share s.visits s.afters a)))

-- four bytes are put over the first zeros
put-four : (front zeros piece : List ℕ) (at m : ℕ) → length front ≡ at → zeros ≡ replicate m 0 → put_mid at 4 (front ++ zeros) piece ≡ (front ++ piece) ++ replicate (m - 4) 0
put-four front zeros piece at m is e =
    let front_is = take_at front zeros at is in
    let back_is = drop_at front zeros at is in
    rw (front_is, back_is)
    (ap (λ (z : List ℕ). front ++ (piece ++ drop 4 z)) e
    ∙ (ap (λ (z : List ℕ). front ++ (piece ++ z)) (drop-replicate 4 m 0) ∙ sym (append_assoc front piece (replicate (m - 4) 0))))

-- one more share stands there
pub putting-goes_on : (s : Shares) (before left rest : List ℕ) (at : ℕ) (bytes : List ℕ) (a : ℕ) → IsPutting s before left at bytes → left ≡ a ∷ rest →
    IsPutting s before rest (at + 4) (put_mid at 4 bytes (share_bytes (share s.visits s.afters a)))
putting-goes_on s before left rest at bytes a putting e = record {
  done = putting.done ++ a ∷ [];
  split = moved s.parties putting.done rest a (putting.split ∙ ap (λ (l : List ℕ). putting.done ++ l) e);
  place = omega (arith, putting.place, length-append putting.done (a ∷ []));
  put = λ head five zeros. puts head five (putting.put head five zeros);
}
  where
    sb : List ℕ
    sb = share_bytes (share s.visits s.afters a)

    n : ℕ
    n = length putting.done

    puts : (head : List ℕ) → length head ≡ 5 → bytes ≡ put_front s head putting.done ++ replicate (121 - 4 * length putting.done) 0 →
        put_mid at 4 bytes sb ≡ put_front s head (putting.done ++ a ∷ []) ++ replicate (121 - 4 * length (putting.done ++ a ∷ [])) 0
    puts head five was =
        let place : length (put_front s head putting.done) ≡ at =
        omega (arith, length-append head (low_byte (length s.parties) ∷ bytes_of s putting.done), length-bytes_of s putting.done, putting.place, five) in
        let left : (121 - 4 * length putting.done) - 4 ≡ 121 - 4 * length (putting.done ++ a ∷ []) = omega (arith, length-append putting.done (a ∷ [])) in
        ap (λ (b : List ℕ). put_mid at 4 b sb) was
        ∙ (put-four (put_front s head putting.done) (replicate (121 - 4 * length putting.done) 0) sb at (121 - 4 * length putting.done) place refl
        ∙ (ap (λ (z : ℕ). (put_front s head putting.done ++ sb) ++ replicate z 0) left
        ∙ ap (λ (f : List ℕ). f ++ replicate (121 - 4 * length (putting.done ++ a ∷ [])) 0) (sym (put_front-push s head putting.done a))))

-- there is room for one more share
pub putting-fits : (s : Shares) (before left rest : List ℕ) (at : ℕ) (bytes : List ℕ) (a : ℕ) → IsPutting s before left at bytes → left ≡ a ∷ rest → IsRisingBelow 16 s.parties → at + 4 ≤ 127
putting-fits s before left rest at bytes a putting e rises =
    let few = length-below 16 s.parties rises in
    let all = ap length (putting.split ∙ ap (λ (l : List ℕ). putting.done ++ l) e) ∙ length-append putting.done (a ∷ rest) in
    omega (arith, few, all, putting.place)

-- in the end all stand there
pub putting-ends : (s : Shares) (before left : List ℕ) (at : ℕ) (bytes head : List ℕ) → IsPutting s before left at bytes → left ≡ [] → length head ≡ 5 → before ≡ head ++ replicate 122 0 → bytes ≡ head ++ tail_bytes (shares_of s)
putting-ends s before left at bytes head putting e five zeros =
    let all : s.parties ≡ putting.done = putting.split ∙ (ap (λ (l : List ℕ). putting.done ++ l) e ∙ append-nil putting.done) in
    let P : List ℕ → Type 0 = λ done. bytes ≡ put_front s head done ++ replicate (121 - 4 * length done) 0 in
    let was : P s.parties = subst P (sym all) (putting.put head five zeros) in
    let many : 4 * length s.parties ≡ 4 * length (shares_of s) = omega (arith, length-map s.parties (share s.visits s.afters)) in
    was
    ∙ (append_assoc head (low_byte (length s.parties) ∷ bytes_of s s.parties) (replicate (121 - 4 * length s.parties) 0)
    ∙ (ap (λ (n : ℕ). head ++ low_byte (length s.parties) ∷ (bytes_of s s.parties ++ replicate (121 - n) 0)) many
    ∙ ap (λ (n : ℕ). head ++ low_byte n ∷ (bytes_of s s.parties ++ replicate (121 - 4 * length (shares_of s)) 0)) (sym (length-map s.parties (share s.visits s.afters)))))

-- at first all are left to be tested
pub testing-starts : (s : Shares) → IsTesting s s.parties
testing-starts s = record { done = []; split = refl; fit = All-nil ShareFits }

pub testing-goes_on : (s : Shares) (left rest : List ℕ) (a : ℕ) → IsTesting s left → left ≡ a ∷ rest → ShareFits (share s.visits s.afters a) → IsTesting s rest
testing-goes_on s left rest a testing e fits = record {
  done = testing.done ++ a ∷ [];
  split = moved s.parties testing.done rest a (testing.split ∙ ap (λ (l : List ℕ). testing.done ++ l) e);
  fit = subst (λ (shares : List Share). All ShareFits shares) (sym (map-append (share s.visits s.afters) testing.done (a ∷ [])))
      (All-push ShareFits (map (share s.visits s.afters) testing.done) (share s.visits s.afters a) testing.fit fits);
}

-- the agents of shares are the parties
pub agents-shares : (visits afters parties : List ℕ) → map (λ s. s.agent) (map (share visits afters) parties) ≡ parties
agents-shares visits afters [] = refl
agents-shares visits afters (a ∷ parties) = ap (λ (l : List ℕ). a ∷ l) (agents-shares visits afters parties)

pub testing-ends : (s : Shares) (left : List ℕ) → IsTesting s left → left ≡ [] → IsRisingBelow 16 s.parties → SharesFit (shares_of s)
testing-ends s left testing e rises = record {
  parties = subst (λ (l : List ℕ). IsRisingBelow 16 l) (sym (agents-shares s.visits s.afters s.parties)) rises;
  each =
      let all : s.parties ≡ testing.done = testing.split ∙ (ap (λ (l : List ℕ). testing.done ++ l) e ∙ append-nil testing.done) in
      subst (λ (l : List ℕ). All ShareFits (map (share s.visits s.afters) l)) (sym all) testing.fit;
}

-- a party whose share isn't within its bounds
pub All-back : {X : Type 0} (P : X → Type 0) (xs : List X) (x : X) (ys : List X) → All P (xs ++ x ∷ ys) → P x
All-back P [] x ys h = All-head P x ys h
All-back P (y ∷ xs) x ys h = All-back P xs x ys (All-tail P y (xs ++ x ∷ ys) h)

pub testing-fails : (s : Shares) (left rest : List ℕ) (a : ℕ) → IsTesting s left → left ≡ a ∷ rest → SharesFit (shares_of s) → ShareFits (share s.visits s.afters a)
testing-fails s left rest a testing e fit =
    let V = share s.visits s.afters in
    let all : shares_of s ≡ map V testing.done ++ V a ∷ map V rest = ap (λ (l : List ℕ). map V l) (testing.split ∙ ap (λ (l : List ℕ). testing.done ++ l) e) ∙ map-append V testing.done (a ∷ rest) in
    All-back ShareFits (map V testing.done) (V a) (map V rest) (subst (λ (shares : List Share). All ShareFits shares) all fit.each)

-- without shares there is no party
pub shares-none : (s : Shares) → shares_of s ≡ [] → length s.parties ≡ 0
shares-none s e = sym (length-map s.parties (share s.visits s.afters)) ∙ ap (λ (l : List Share). length l) e
