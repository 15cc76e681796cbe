-- What outcomes give, one after another: when it is nothing, and when its pairs stand in order.
use Rattle.std.proofs.Common.{◌≡◌, ℕ, ◌+◌, List, [], ◌∷◌, ◌++◌, length, map, get_or, refl}
use Rattle.std.proofs.lemmas.List.Elements.{All-nil, All-head, All-tail, All-append, All-map}
use Rattle.std.specs.List.{All, AllPairs, flat_map}
use Rattle.nego_base.proofs.ListLaws.{All-front, All-back, All-unmap}
use Rattle.nego_base.proofs.PairLaws.{AllPairs-nil, AllPairs-append, AllPairs-head, AllPairs-tail, AllPairs-front, AllPairs-back, AllPairs-between}
use Rattle.nego_reader.specs.declared.parsed.PAtom.{PAtom}
use Rattle.nego_reader.specs.declared.parsed.POut.{POut}
use Rattle.nego_reader.specs.Content.{OutContent, atom_content, out_content}
use Rattle.nego_shape.specs.Faults.{numbered, each_out}
use Rattle.nego_shape.specs.Naming.{PlacedOut, outs_from}
use Rattle.nego_shape.specs.Made.{placed_at}
use Rattle.nego_shape.proofs.Numbered.{empty_parts, empty_both, clear-numbered, empty-numbered}

-- the outcomes of these atoms
abbrev pub outs_in : List PAtom → List POut
outs_in atoms = flat_map (λ (atom : PAtom). atom.outs) atoms

-- ---- nothing is given

module _ {B : Type 0} (f : ℕ → ℕ → POut → List B) (P : PlacedOut → Type 0) where
  -- what holds of the placed outcomes of an atom
  own : (n : ℕ) (outs : List POut) (rest : List PlacedOut) → All P (map (placed_at n) (map out_content outs) ++ rest) → All (λ out. P (placed_at n (out_content out))) outs
  own n outs rest h =
      All-unmap (λ (out : OutContent). P (placed_at n out)) out_content outs
      (All-unmap P (placed_at n) (map out_content outs) (All-front P (map (placed_at n) (map out_content outs)) rest h))

  -- outcomes that have this give nothing
  pub empty-each_out : ((n o : ℕ) (out : POut) → P (placed_at n (out_content out)) → f n o out ≡ []) → (n o : ℕ) (atoms : List PAtom) → All P (outs_from n (map atom_content atoms)) → each_out f n o atoms ≡ []
  unfolding each_out
  empty-each_out each n o [] h = refl
  empty-each_out each n o (atom ∷ atoms) h =
      let rest = outs_from (n + 1) (map atom_content atoms) in
      empty_both (numbered (f n) o atom.outs) (each_out f (n + 1) (o + length atom.outs) atoms)
      (empty-numbered (f n) (λ out. P (placed_at n (out_content out))) (each n) o atom.outs (own n atom.outs rest h))
      (empty-each_out each (n + 1) (o + length atom.outs) atoms (All-back P (map (placed_at n) (map out_content atom.outs)) rest h))

module _ {B : Type 0} (f : ℕ → ℕ → POut → List B) (D P : PlacedOut → Type 0) where
  -- outcomes that give nothing have this, where they have something else
  pub clear-each_out : ((n o : ℕ) (out : POut) → D (placed_at n (out_content out)) → f n o out ≡ [] → P (placed_at n (out_content out))) →
      (n o : ℕ) (atoms : List PAtom) → All D (outs_from n (map atom_content atoms)) → each_out f n o atoms ≡ [] → All P (outs_from n (map atom_content atoms))
  unfolding each_out
  clear-each_out each n o [] d h = All-nil P
  clear-each_out each n o (atom ∷ atoms) d h =
      let rest = outs_from (n + 1) (map atom_content atoms) in
      let two = empty_parts (numbered (f n) o atom.outs) (each_out f (n + 1) (o + length atom.outs) atoms) h in
      let have = own f D n atom.outs rest d in
      let gain = clear-numbered (f n) (λ (out : POut). D (placed_at n (out_content out)) → P (placed_at n (out_content out))) (λ i out e k. each n i out k e) o atom.outs two.0 in
      All-append P (map (placed_at n) (map out_content atom.outs)) rest
      (All-map P (placed_at n) (map out_content atom.outs) (All-map (λ (out : OutContent). P (placed_at n out)) out_content atom.outs (λ k e l. gain k e l (have k e l))))
      (clear-each_out each (n + 1) (o + length atom.outs) atoms (All-back D (map (placed_at n) (map out_content atom.outs)) rest d) two.1)

-- ---- pairs of what is given

-- Outcomes that stand so give what stands so: `Gives out b` says that b may be given of the outcome.
module _ {B : Type 0} (R : B → B → Type 0) (S : POut → POut → Type 0) (T : POut → Type 0) (Gives : POut → B → Type 0) (apart : (x y : POut) (b c : B) → S x y → Gives x b → Gives y c → R b c) where
  behind-numbered : (f : ℕ → POut → List B) → ((o : ℕ) (out : POut) → All (Gives out) (f o out)) → (x : POut) (b : B) → Gives x b → (o : ℕ) (outs : List POut) → All (S x) outs → All (R b) (numbered f o outs)
  unfolding numbered
  behind-numbered f each x b g o [] h = All-nil (R b)
  behind-numbered f each x b g o (y ∷ ys) h =
      All-append (R b) (f o y) (numbered f (o + 1) ys) (λ i d l. apart x y b (get_or (f o y) i d) (All-head (S x) y ys h) g (each o y i d l)) (behind-numbered f each x b g (o + 1) ys (All-tail (S x) y ys h))

  pairs-numbered : (f : ℕ → POut → List B) → ((o : ℕ) (out : POut) → All (Gives out) (f o out)) → ((o : ℕ) (out : POut) → T out → AllPairs R (f o out)) → (o : ℕ) (outs : List POut) → AllPairs S outs → All T outs → AllPairs R (numbered f o outs)
  unfolding numbered
  pairs-numbered f each inside o [] h t = AllPairs-nil R
  pairs-numbered f each inside o (x ∷ xs) h t =
      AllPairs-append R (f o x) (numbered f (o + 1) xs) (inside o x (All-head T x xs t)) (pairs-numbered f each inside (o + 1) xs (AllPairs-tail S x xs h) (All-tail T x xs t))
      (λ i d l. behind-numbered f each x (get_or (f o x) i d) (each o x i d l) (o + 1) xs (AllPairs-head S x xs h))

  module _ (f : ℕ → ℕ → POut → List B) (each : (n o : ℕ) (out : POut) → All (Gives out) (f n o out)) where
    behind-outs : (x : POut) (b : B) → Gives x b → (n o : ℕ) (atoms : List PAtom) → All (S x) (outs_in atoms) → All (R b) (each_out f n o atoms)
    unfolding each_out
    behind-outs x b g n o [] h = All-nil (R b)
    behind-outs x b g n o (atom ∷ atoms) h =
        All-append (R b) (numbered (f n) o atom.outs) (each_out f (n + 1) (o + length atom.outs) atoms)
        (behind-numbered (f n) (each n) x b g o atom.outs (All-front (S x) atom.outs (outs_in atoms) h))
        (behind-outs x b g (n + 1) (o + length atom.outs) atoms (All-back (S x) atom.outs (outs_in atoms) h))

    -- what is given of an atom's outcomes, with what later ones give
    behind-own : (n o m k : ℕ) (outs : List POut) (atoms : List PAtom) → All (λ x. All (S x) (outs_in atoms)) outs → All (λ b. All (R b) (each_out f m k atoms)) (numbered (f n) o outs)
    unfolding numbered
    behind-own n o m k [] atoms h = All-nil (λ b. All (R b) (each_out f m k atoms))
    behind-own n o m k (x ∷ xs) atoms h =
        All-append (λ b. All (R b) (each_out f m k atoms)) (f n o x) (numbered (f n) (o + 1) xs)
        (λ i d l. behind-outs x (get_or (f n o x) i d) (each n o x i d l) m k atoms (All-head (λ y. All (S y) (outs_in atoms)) x xs h))
        (behind-own n (o + 1) m k xs atoms (All-tail (λ y. All (S y) (outs_in atoms)) x xs h))

    pub pairs-each_out : ((n o : ℕ) (out : POut) → T out → AllPairs R (f n o out)) → (n o : ℕ) (atoms : List PAtom) → AllPairs S (outs_in atoms) → All T (outs_in atoms) → AllPairs R (each_out f n o atoms)
    unfolding each_out
    pairs-each_out inside n o [] h t = AllPairs-nil R
    pairs-each_out inside n o (atom ∷ atoms) h t =
        AllPairs-append R (numbered (f n) o atom.outs) (each_out f (n + 1) (o + length atom.outs) atoms)
        (pairs-numbered (f n) (each n) (inside n) o atom.outs (AllPairs-front S atom.outs (outs_in atoms) h) (All-front T atom.outs (outs_in atoms) t))
        (pairs-each_out inside (n + 1) (o + length atom.outs) atoms (AllPairs-back S atom.outs (outs_in atoms) h) (All-back T atom.outs (outs_in atoms) t))
        (behind-own n o (n + 1) (o + length atom.outs) atom.outs atoms (AllPairs-between S atom.outs (outs_in atoms) h))
