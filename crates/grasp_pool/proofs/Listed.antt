-- What is reserved or doubtful stays apart from the rest, whatever becomes of a pool.
use Rattle.std.proofs.Common.{◌≡◌, ℕ, ◌⊎◌, inl, inr, Contains, sym, ◌∙◌, subst}
use Rattle.grasp_types.specs.Prefix.{AddressBlock as Prefix, span_of}
use Rattle.grasp_pool.proofs.Addresses.{first_in}
use Rattle.grasp_pool.specs.Spans.{Apart, Covers}
use Rattle.grasp_pool.specs.Holdings.{Holding, IsFree, IsListed, PoolApart, Reserves, GivesBack, Confirms, Doubts, Settles, Gains}

-- no more is free, reserved or doubtful than before
fewer : (old new : Holding) → PoolApart old → ((a : ℕ) → IsFree new a → IsFree old a)
    → ((q : Prefix) → IsListed new q → IsListed old q) → ((q : Prefix) → Contains new.reserved q → ¬ Contains new.doubtful q) → PoolApart new
fewer old new apart free listed once = record {
  held = λ q a l i f. apart.held q a (listed q l) i (free a f);
  listed = λ p q ne l m. apart.listed p q ne (listed p l) (listed q m);
  once = once;
}

-- p is free too, from which all that is listed is apart
more : (old new : Holding) (p : Prefix) → PoolApart old → ((a : ℕ) → IsFree new a → IsFree old a ⊎ span_of p a)
    → ((q : Prefix) → IsListed new q → IsListed old q × Apart q p) → ((q : Prefix) → Contains new.reserved q → ¬ Contains new.doubtful q) → PoolApart new
more old new p apart free listed once = record {
  held = λ q a l i f. elim (free a f) [ inl f' ↦ apart.held q a (listed q l).0 i f' | inr j ↦ (listed q l).1 a i j ];
  listed = λ q r ne l m. apart.listed q r ne (listed q l).0 (listed r m).0;
  once = once;
}

module _ (old new : Holding) (p : Prefix) (apart : PoolApart old) where
  pub reserves_apart : Reserves old new p → PoolApart new
  reserves_apart g =
      let doubtful : (q : Prefix) → Contains new.doubtful q → Contains old.doubtful q = λ q h. subst (λ xs. Contains xs q) g.doubtful h
      in let listed : (q : Prefix) → IsListed new q → IsListed old q ⊎ (q ≡ p)
      = λ q l. elim l [
        | inl h ↦ elim ((g.reserved q).0 h) [ inl h' ↦ inl (inl h') | inr e ↦ inr e ]
        | inr h ↦ inl (inr (doubtful q h))
      ]
      in let other : (q : Prefix) → IsListed old q → Apart q p = λ q l a i j. apart.held q a l i (g.was a j)
      in record {
        held = λ q a l i f. elim (listed q l) [
          | inl l' ↦ apart.held q a l' i ((g.free a).0 f).0
          | inr e ↦ ((g.free a).0 f).1 (subst (λ x. span_of x a) e i)
        ];
        listed = λ q r ne l m. elim (listed q l) [
          | inl l' ↦ elim (listed r m) [
            | inl m' ↦ apart.listed q r ne l' m'
            | inr e ↦ subst (Apart q) (sym e) (other q l')
          ]
          | inr e ↦ elim (listed r m) [
            | inl m' ↦ λ a i j. other r m' a j (subst (λ x. span_of x a) e i)
            | inr e' ↦ absurd (ne (e ∙ sym e'))
          ]
        ];
        once = λ q h d. elim ((g.reserved q).0 h) [
          | inl h' ↦ apart.once q h' (doubtful q d)
          | inr e ↦ other q (inr (doubtful q d)) q.address (first_in q) (subst (λ x. span_of x q.address) e (first_in q))
        ];
      }

  pub back_apart : GivesBack old new p → PoolApart new
  back_apart g =
      let doubtful : (q : Prefix) → Contains new.doubtful q → Contains old.doubtful q = λ q h. subst (λ xs. Contains xs q) g.doubtful h
      in more old new p apart (λ a. (g.free a).0)
      (λ q l. elim l [
        | inl h ↦ let h' = (g.reserved q).0 h in (inl h'.0, apart.listed q p h'.1 (inl h'.0) (inl g.was))
        | inr h ↦ let d = doubtful q h in (inr d, apart.listed q p (λ e. apart.once p g.was (subst (Contains old.doubtful) e d)) (inr d) (inl g.was))
      ])
      (λ q h d. apart.once q ((g.reserved q).0 h).0 (doubtful q d))

  pub settles_apart : Settles old new p → PoolApart new
  settles_apart g =
      let reserved : (q : Prefix) → Contains new.reserved q → Contains old.reserved q = λ q h. subst (λ xs. Contains xs q) g.reserved h
      in more old new p apart (λ a. (g.free a).0)
      (λ q l. elim l [
        | inl h ↦ let r = reserved q h in (inl r, apart.listed q p (λ e. apart.once q r (subst (Contains old.doubtful) (sym e) g.was)) (inl r) (inr g.was))
        | inr h ↦ let h' = (g.doubtful q).0 h in (inr h'.0, apart.listed q p h'.1 (inr h'.0) (inr g.was))
      ])
      (λ q h d. apart.once q (reserved q h) ((g.doubtful q).0 d).0)

  pub gains_apart : Gains old new p → PoolApart new
  gains_apart g =
      let listed : (q : Prefix) → IsListed new q → IsListed old q
      = λ q l. elim l [
        | inl h ↦ inl (subst (λ xs. Contains xs q) g.reserved h)
        | inr h ↦ inr (subst (λ xs. Contains xs q) g.doubtful h)
      ]
      in more old new p apart (λ a. (g.free a).0) (λ q l. (listed q l, λ a i j. g.was.listed q (listed q l) a j i))
      (λ q h d. apart.once q (subst (λ xs. Contains xs q) g.reserved h) (subst (λ xs. Contains xs q) g.doubtful d))

  pub confirms_apart : Confirms old new p → PoolApart new
  confirms_apart g =
      let doubtful : (q : Prefix) → Contains new.doubtful q → Contains old.doubtful q = λ q h. subst (λ xs. Contains xs q) g.doubtful h
      in fewer old new apart (λ a f. subst (λ xs. Covers xs a) g.free f) (λ q l. elim l [ inl h ↦ inl ((g.reserved q).0 h).0 | inr h ↦ inr (doubtful q h) ])
      (λ q h d. apart.once q ((g.reserved q).0 h).0 (doubtful q d))

  pub doubts_apart : Doubts old new p → PoolApart new
  doubts_apart g = fewer old new apart (λ a f. subst (λ xs. Covers xs a) g.free f)
      (λ q l. elim l [
        | inl h ↦ inl ((g.reserved q).0 h).0
        | inr h ↦ elim ((g.doubtful q).0 h) [ inl h' ↦ inr h' | inr e ↦ inl (subst (Contains old.reserved) (sym e) g.was) ]
      ])
      (λ q h d. elim ((g.doubtful q).0 d) [ inl d' ↦ apart.once q ((g.reserved q).0 h).0 d' | inr e ↦ ((g.reserved q).0 h).1 e ])
