-- Chunks after their lengths: a list of chunks grows by one, and bytes are chunks, or have a first error, in at most one way.
use Rattle.std.proofs.Common.{◌≡◌, ℕ, ◌<◌, ◌⊎◌, inl, inr, List, [], ◌∷◌, ◌++◌, length, drop, map, Result, Ok, Err, Vec, IfOk, IfErr, IsErrAnd, MatchResult, refl, ap, sym, ◌∙◌, subst, arith, length-append, length-drop}
use Rattle.std.specs.declared.alloc.Global.{Global}
use Rattle.perfdata_sources.specs.Endian.{number_in}
use Rattle.perfdata_sources.specs.declared.endian.Endianness.{Endianness}
use Rattle.perfdata_simpleperf.specs.Chunks.{ChunkError, truncated_length, exceeds_section, invalid_record, ReportsChunkError, ChunkAt, IsTruncatedLength, IsTruncatedChunk, ChunksAt, AreChunks, ChunkNeedsMemory, ChunkErrorAt, FirstChunkError}
use Rattle.perfdata_sections.specs.declared.error.Error.{Error}
use Rattle.perfdata_sections.specs.declared.error.Error.TheVariants.{Memory}
use Rattle.perfdata_simpleperf.proofs.Decoding.ItemUniqueness.{splits_same}

-- an error without the cause of an allocation failure
pub without_chunk : {A : Type 0} (r : Result A Error) (P : Type 0) (Q : Error → Type 0) → IfErr r (λ e. ((e ≡ Memory) × P) ⊎ Q e) → IfErr r (λ e. (e ≡ Memory) ⊎ Q e)
without_chunk (Ok a) P Q error = tt
without_chunk (Err e) P Q error = elim error [ inl memory ↦ inl memory.0 | inr other ↦ inr other ]

module _ (endian : Endianness) where
  pub chunk_shorter : (bs chunk rest : List ℕ) → ChunkAt endian bs chunk rest → length rest < length bs
  chunk_shorter bs chunk rest at =
      let d = length-drop 4 bs in
      let s = ap length at.split ∙ length-append chunk rest in
      let e = at.enough in
      omega (arith, d, s, e)

  chunk_same : (bs p q r s : List ℕ) → ChunkAt endian bs p r → ChunkAt endian bs q s → (p ≡ q) × (r ≡ s)
  chunk_same bs p q r s a b = splits_same (drop 4 bs) (number_in endian 4 bs) p q r s (record { exact_len = a.exact_len; split = a.split }) (record { exact_len = b.exact_len; split = b.split })

  chunk_not_truncated_length : (bs p r : List ℕ) → ChunkAt endian bs p r → IsTruncatedLength bs → ⊥
  chunk_not_truncated_length bs p r at truncated = let e = at.enough in omega (arith, e, truncated)

  chunk_not_truncated : (bs p r : List ℕ) → ChunkAt endian bs p r → IsTruncatedChunk endian bs → ⊥
  chunk_not_truncated bs p r at truncated =
      let d = length-drop 4 bs in
      let s = ap length at.split ∙ length-append p r in
      let z = at.exact_len in
      omega (arith, d, s, z, truncated.0, truncated.1)

  module _ {D : Type 0} (Is : List ℕ → D → Type 0) where
    pub chunks_then : (bs : List ℕ) (ds : List D) (mid chunk : List ℕ) (d : D) (rest : List ℕ) → ChunksAt endian Is bs ds mid → ChunkAt endian mid chunk rest → Is chunk d → ChunksAt endian Is bs (ds ++ d ∷ []) rest
    chunks_then bs [] mid chunk d rest before at is = (chunk, rest, subst (λ (x : List ℕ). ChunkAt endian x chunk rest) (sym before) at, is, refl)
    chunks_then bs (x ∷ ds) mid chunk d rest before at is = (before.0, before.1, before.2, before.3, chunks_then before.1 ds mid chunk d rest before.4 at is)

    module _ {F : Type 0} (IsNot : List ℕ → F → Type 0) where
      -- a chunk follows valid ones, and its bytes have an error, or need memory
      pub bad_chunk : (Needs : List ℕ → Type 0) (Reports : F → Error → Type 0) (bs : List ℕ) (ds : List D) (mid chunk rest : List ℕ) (e : Error) → ChunksAt endian Is bs ds mid → ChunkAt endian mid chunk rest
          → ((e ≡ Memory) × Needs chunk) ⊎ ((f : F) × IsNot chunk f × Reports f e) → ((e ≡ Memory) × ChunkNeedsMemory endian Is Needs bs) ⊎ ((f : ChunkError F) × FirstChunkError endian Is IsNot bs f × ReportsChunkError Reports f e)
      bad_chunk Needs Reports bs ds mid chunk rest e before at (inl m) = inl (m.0, record { earlier = ds; mid = mid; elements = before; chunk = chunk; rest = rest; reads = at; needs = inl m.1 })
      bad_chunk Needs Reports bs ds mid chunk rest e before at (inr w) = inr (invalid_record w.0, record { earlier = ds; mid = mid; elements = before; error_here = record { chunk = chunk; rest = rest; reads = at; error = w.1 } }, w.2)

      -- the bytes of a chunk encode at most one value, or else have at most one error
      pub record UniqueChunk : Type 0 where
        pub value : (bs : List ℕ) (d e : D) → Is bs d → Is bs e → d ≡ e
        pub not_both : (bs : List ℕ) (d : D) (f : F) → Is bs d → IsNot bs f → ⊥
        pub error : (bs : List ℕ) (f g : F) → IsNot bs f → IsNot bs g → f ≡ g

      module _ (one : UniqueChunk) where
        -- bytes that begin with a valid chunk have no error at that chunk
        chunk_not_both : (bs chunk rest : List ℕ) (d : D) (f : ChunkError F) → ChunkAt endian bs chunk rest → Is chunk d → ChunkErrorAt endian Is IsNot bs f → ⊥
        chunk_not_both bs chunk rest d truncated_length at is w = chunk_not_truncated_length bs chunk rest at w.1
        chunk_not_both bs chunk rest d exceeds_section at is w = chunk_not_truncated bs chunk rest at w
        chunk_not_both bs chunk rest d (invalid_record f) at is w =
            let s = chunk_same bs chunk w.chunk rest w.rest at w.reads in
            one.not_both w.chunk d f (subst (λ (x : List ℕ). Is x d) s.0 is) w.error

        chunk_error_same : (bs : List ℕ) (f g : ChunkError F) → ChunkErrorAt endian Is IsNot bs f → ChunkErrorAt endian Is IsNot bs g → f ≡ g
        chunk_error_same bs truncated_length truncated_length v w = refl
        chunk_error_same bs truncated_length exceeds_section v w = let a = v.1 in let b = w.0 in absurd (omega (arith, a, b))
        chunk_error_same bs truncated_length (invalid_record g) v w = absurd (chunk_not_truncated_length bs w.chunk w.rest w.reads v.1)
        chunk_error_same bs exceeds_section truncated_length v w = let a = w.1 in let b = v.0 in absurd (omega (arith, a, b))
        chunk_error_same bs exceeds_section exceeds_section v w = refl
        chunk_error_same bs exceeds_section (invalid_record g) v w = absurd (chunk_not_truncated bs w.chunk w.rest w.reads v)
        chunk_error_same bs (invalid_record f) truncated_length v w = absurd (chunk_not_truncated_length bs v.chunk v.rest v.reads w.1)
        chunk_error_same bs (invalid_record f) exceeds_section v w = absurd (chunk_not_truncated bs v.chunk v.rest v.reads w)
        chunk_error_same bs (invalid_record f) (invalid_record g) v w =
            let s = chunk_same bs v.chunk w.chunk v.rest w.rest v.reads w.reads in
            ap invalid_record (one.error w.chunk f g (subst (λ (x : List ℕ). IsNot x f) s.0 v.error) w.error)

        -- the end of the bytes has no error
        none_at_end : (f : ChunkError F) → ChunkErrorAt endian Is IsNot [] f → ⊥
        none_at_end truncated_length w = let a = w.0 in omega (arith, a)
        none_at_end exceeds_section w = let a = w.0 in omega (arith, a)
        none_at_end (invalid_record f) w = let a = w.reads.enough in omega (arith, a)

        pub chunks_same : (bs : List ℕ) (ds es : List D) → AreChunks endian Is bs ds → AreChunks endian Is bs es → ds ≡ es
        chunks_same bs [] [] p q = refl
        chunks_same bs [] (e ∷ es) p q = absurd (let s = chunk_shorter bs q.0 q.1 q.2 in let z = ap length p in omega (arith, s, z))
        chunks_same bs (d ∷ ds) [] p q = absurd (let s = chunk_shorter bs p.0 p.1 p.2 in let z = ap length q in omega (arith, s, z))
        chunks_same bs (d ∷ ds) (e ∷ es) p q =
            let s = chunk_same bs p.0 q.0 p.1 q.1 p.2 q.2 in
            let v = one.value q.0 d e (subst (λ (x : List ℕ). Is x d) s.0 p.3) q.3 in
            let t = chunks_same q.1 ds es (subst (λ (x : List ℕ). AreChunks endian Is x ds) s.1 p.4) q.4 in
            ap (λ (x : D). x ∷ ds) v ∙ ap (λ (xs : List D). e ∷ xs) t

        not_both_by : (bs : List ℕ) (ds es : List D) (mid : List ℕ) (f : ChunkError F) → AreChunks endian Is bs ds → ChunksAt endian Is bs es mid → ChunkErrorAt endian Is IsNot mid f → ⊥
        not_both_by bs [] [] mid f p q w = none_at_end f (subst (λ (x : List ℕ). ChunkErrorAt endian Is IsNot x f) (sym q ∙ p) w)
        not_both_by bs (d ∷ ds) [] mid f p q w = chunk_not_both bs p.0 p.1 d f p.2 p.3 (subst (λ (x : List ℕ). ChunkErrorAt endian Is IsNot x f) (sym q) w)
        not_both_by bs [] (e ∷ es) mid f p q w = let s = chunk_shorter bs q.0 q.1 q.2 in let z = ap length p in omega (arith, s, z)
        not_both_by bs (d ∷ ds) (e ∷ es) mid f p q w =
            let s = chunk_same bs p.0 q.0 p.1 q.1 p.2 q.2 in
            not_both_by q.1 ds es mid f (subst (λ (x : List ℕ). AreChunks endian Is x ds) s.1 p.4) q.4 w

        pub chunks_not_both : (bs : List ℕ) (ds : List D) (f : ChunkError F) → AreChunks endian Is bs ds → FirstChunkError endian Is IsNot bs f → ⊥
        chunks_not_both bs ds f p q = not_both_by bs ds q.earlier q.mid f p q.elements q.error_here

        error_by : (bs : List ℕ) (ds es : List D) (m n : List ℕ) (f g : ChunkError F) → ChunksAt endian Is bs ds m → ChunksAt endian Is bs es n → ChunkErrorAt endian Is IsNot m f → ChunkErrorAt endian Is IsNot n g → f ≡ g
        error_by bs [] [] m n f g p q v w = chunk_error_same m f g v (subst (λ (x : List ℕ). ChunkErrorAt endian Is IsNot x g) (sym q ∙ p) w)
        error_by bs [] (e ∷ es) m n f g p q v w = absurd (chunk_not_both bs q.0 q.1 e f q.2 q.3 (subst (λ (x : List ℕ). ChunkErrorAt endian Is IsNot x f) (sym p) v))
        error_by bs (d ∷ ds) [] m n f g p q v w = absurd (chunk_not_both bs p.0 p.1 d g p.2 p.3 (subst (λ (x : List ℕ). ChunkErrorAt endian Is IsNot x g) (sym q) w))
        error_by bs (d ∷ ds) (e ∷ es) m n f g p q v w =
            let s = chunk_same bs p.0 q.0 p.1 q.1 p.2 q.2 in
            error_by q.1 ds es m n f g (subst (λ (x : List ℕ). ChunksAt endian Is x ds m) s.1 p.4) q.4 v w

        pub chunks_error : (bs : List ℕ) (f g : ChunkError F) → FirstChunkError endian Is IsNot bs f → FirstChunkError endian Is IsNot bs g → f ≡ g
        chunks_error bs f g p q = error_by bs p.earlier q.earlier p.mid q.mid f g p.elements q.elements p.error_here q.error_here

        -- ---- the result

        module _ (Reports : F → Error → Type 0) where
          is_memory : (bs : List ℕ) (ds : List D) (e : Error) → AreChunks endian Is bs ds → (e ≡ Memory) ⊎ ((f : ChunkError F) × FirstChunkError endian Is IsNot bs f × ReportsChunkError Reports f e) → e ≡ Memory
          is_memory bs ds e p (inl m) = m
          is_memory bs ds e p (inr f) = absurd (chunks_not_both bs ds f.0 p f.1)

          reports_error : (bs : List ℕ) (f : ChunkError F) (e : Error) → FirstChunkError endian Is IsNot bs f → (e ≡ Memory) ⊎ ((g : ChunkError F) × FirstChunkError endian Is IsNot bs g × ReportsChunkError Reports g e) → (e ≡ Memory) ⊎ ReportsChunkError Reports f e
          reports_error bs f e p (inl m) = inl m
          reports_error bs f e p (inr g) = inr (subst (λ (x : ChunkError F). ReportsChunkError Reports x e) (chunks_error bs g.0 f g.1 p) g.2)

          module _ {X : Type 0} (value : X → D) where
            pub only_chunks : (bs : List ℕ) (r : Result (Vec X Global) Error) → IfOk r (λ v. AreChunks endian Is bs (map value v.items)) → IfErr r (λ e. (e ≡ Memory) ⊎ ((f : ChunkError F) × FirstChunkError endian Is IsNot bs f × ReportsChunkError Reports f e)) → (ds : List D) → AreChunks endian Is bs ds → MatchResult r (λ v. map value v.items ≡ ds) (λ e. e ≡ Memory)
            only_chunks bs (Ok v) on_ok on_error ds p = chunks_same bs (map value v.items) ds on_ok p
            only_chunks bs (Err e) on_ok on_error ds p = is_memory bs ds e p on_error

            pub first_chunk_error : (bs : List ℕ) (r : Result (Vec X Global) Error) → IfOk r (λ v. AreChunks endian Is bs (map value v.items)) → IfErr r (λ e. (e ≡ Memory) ⊎ ((f : ChunkError F) × FirstChunkError endian Is IsNot bs f × ReportsChunkError Reports f e)) → (f : ChunkError F) → FirstChunkError endian Is IsNot bs f → IsErrAnd r (λ e. (e ≡ Memory) ⊎ ReportsChunkError Reports f e)
            first_chunk_error bs (Ok v) on_ok on_error f p = absurd (chunks_not_both bs (map value v.items) f on_ok p)
            first_chunk_error bs (Err e) on_ok on_error f p = reports_error bs f e p on_error
