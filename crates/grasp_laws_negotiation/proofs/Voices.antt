-- What the outputs that a step queues say on a stream, and which streams they dial.
use Rattle.std.proofs.Common.{◌≡◌, ℕ, ◌==◌, ◌&&◌, Bool, true, false, cond, List, [], ◌∷◌, Option, Some, None, refl, ap, ◌∙◌}
use Rattle.std.proofs.lemmas.Bool.{eqb-true, eq-eqb}
use Rattle.grasp_model_node.specs.Queue.{Queued, datagram, dial, send}
use Rattle.grasp_laws_node_stories.specs.StreamMoves.{sends_on}
use Rattle.grasp_types.specs.declared.message.Message.{Message}
use Rattle.grasp_session.specs.Conversation.{Said, says, spoken}
use Rattle.grasp_session.specs.Messages.{Side, Near, Far}
use Rattle.grasp_model_network.specs.Streams.{StreamEnd, is_same_end, is_at_end}
use Rattle.grasp_model_network.specs.World.{end_of}

-- the side that this end is, of a stream with these ends
abbrev pub voice_side : StreamEnd → StreamEnd → Option StreamEnd → Option Side
voice_side e near far = cond (is_same_end e near) (Some Near) (cond (is_at_end e far) (Some Far) None)

abbrev pub voiced : Option Side → Message → List Said → List Said
voiced None m zs = zs
voiced (Some side) m zs = says side m ∷ zs

-- what outputs of a node say on a stream with these ends, oldest first
abbrev pub voices : ℕ → StreamEnd → Option StreamEnd → List Queued → List Said
voices node near far [] = []
voices node near far (datagram link to m ∷ qs) = voices node near far qs
voices node near far (dial stream to ∷ qs) = voices node near far qs
voices node near far (send stream m ∷ qs) = voiced (voice_side (end_of node stream) near far) m (voices node near far qs)

-- ---- what each side says

near_step : (b c : Bool) (m : Message) (zs : List Said) → spoken Near (voiced (cond b (Some Near) (cond c (Some Far) None)) m zs) ≡ cond b (m ∷ spoken Near zs) (spoken Near zs)
near_step true c m zs = refl
near_step false true m zs = refl
near_step false false m zs = refl

far_step : (b c : Bool) (m : Message) (zs : List Said) → spoken Far (voiced (cond b (Some Near) (cond c (Some Far) None)) m zs) ≡ cond b (spoken Far zs) (cond c (m ∷ spoken Far zs) (spoken Far zs))
far_step true c m zs = refl
far_step false true m zs = refl
far_step false false m zs = refl

pub same_here : (node a b : ℕ) → is_same_end (end_of node a) (end_of node b) ≡ (a == b)
same_here node a b = rw (eq-eqb node node refl) refl

pub near_says : (node : ℕ) (far : Option StreamEnd) (a : ℕ) (qs : List Queued) → spoken Near (voices node (end_of node a) far qs) ≡ sends_on a qs
near_says node far a [] = refl
near_says node far a (datagram link to m ∷ qs) = near_says node far a qs
near_says node far a (dial stream to ∷ qs) = near_says node far a qs
near_says node far a (send stream m ∷ qs) =
    let zs = voices node (end_of node a) far qs in
    near_step (is_same_end (end_of node stream) (end_of node a)) (is_at_end (end_of node stream) far) m zs
    ∙ (ap (λ b. cond b (m ∷ spoken Near zs) (spoken Near zs)) (same_here node stream a)
    ∙ ap (λ (l : List Message). cond (stream == a) (m ∷ l) l) (near_says node far a qs))

pub near_silent : (node : ℕ) (near : StreamEnd) (far : Option StreamEnd) (qs : List Queued) → (node == near.node) ≡ false → spoken Near (voices node near far qs) ≡ []
near_silent node near far [] e = refl
near_silent node near far (datagram link to m ∷ qs) e = near_silent node near far qs e
near_silent node near far (dial stream to ∷ qs) e = near_silent node near far qs e
near_silent node near far (send stream m ∷ qs) e =
    let zs = voices node near far qs in
    near_step (is_same_end (end_of node stream) near) (is_at_end (end_of node stream) far) m zs
    ∙ (ap (λ b. cond (b && stream == near.number) (m ∷ spoken Near zs) (spoken Near zs)) e ∙ near_silent node near far qs e)

pub far_says : (node : ℕ) (near : StreamEnd) (b : ℕ) (qs : List Queued) → is_same_end (end_of node b) near ≡ false → spoken Far (voices node near (Some (end_of node b)) qs) ≡ sends_on b qs
far_says node near b [] e = refl
far_says node near b (datagram link to m ∷ qs) e = far_says node near b qs e
far_says node near b (dial stream to ∷ qs) e = far_says node near b qs e
far_says node near b (send stream m ∷ qs) e =
    let zs = voices node near (Some (end_of node b)) qs in
    far_step (is_same_end (end_of node stream) near) (is_same_end (end_of node stream) (end_of node b)) m zs
    ∙ (ap (λ c. cond (is_same_end (end_of node stream) near) (spoken Far zs) (cond c (m ∷ spoken Far zs) (spoken Far zs))) (same_here node stream b)
    ∙ (by_same (stream == b) refl ∙ ap (λ (l : List Message). cond (stream == b) (m ∷ l) l) (far_says node near b qs e))) where
      zs : List Said
      zs = voices node near (Some (end_of node b)) qs

      by_same : (c : Bool) → (stream == b) ≡ c → cond (is_same_end (end_of node stream) near) (spoken Far zs) (cond (stream == b) (m ∷ spoken Far zs) (spoken Far zs)) ≡ cond (stream == b) (m ∷ spoken Far zs) (spoken Far zs)
      by_same true is =
          let same : stream ≡ b = eqb-true stream b is in
          ap (λ c. cond c (spoken Far zs) (cond (stream == b) (m ∷ spoken Far zs) (spoken Far zs))) (ap (λ k. is_same_end (end_of node k) near) same ∙ e)
      by_same false is = rw is (both_same (is_same_end (end_of node stream) near)) where
        both_same : (c : Bool) → cond c (spoken Far zs) (spoken Far zs) ≡ spoken Far zs
        both_same true = refl
        both_same false = refl

pub far_silent : (node : ℕ) (near far : StreamEnd) (qs : List Queued) → (node == far.node) ≡ false → spoken Far (voices node near (Some far) qs) ≡ []
far_silent node near far [] e = refl
far_silent node near far (datagram link to m ∷ qs) e = far_silent node near far qs e
far_silent node near far (dial stream to ∷ qs) e = far_silent node near far qs e
far_silent node near far (send stream m ∷ qs) e =
    let zs = voices node near (Some far) qs in
    far_step (is_same_end (end_of node stream) near) (is_same_end (end_of node stream) far) m zs
    ∙ (ap (λ b. cond (is_same_end (end_of node stream) near) (spoken Far zs) (cond (b && stream == far.number) (m ∷ spoken Far zs) (spoken Far zs))) e
    ∙ (both_same (is_same_end (end_of node stream) near) (spoken Far zs) ∙ far_silent node near far qs e)) where
      both_same : (c : Bool) (l : List Message) → cond c l l ≡ l
      both_same true l = refl
      both_same false l = refl

pub none_silent : (node : ℕ) (near : StreamEnd) (qs : List Queued) → spoken Far (voices node near None qs) ≡ []
none_silent node near [] = refl
none_silent node near (datagram link to m ∷ qs) = none_silent node near qs
none_silent node near (dial stream to ∷ qs) = none_silent node near qs
none_silent node near (send stream m ∷ qs) =
    let zs = voices node near None qs in
    far_step (is_same_end (end_of node stream) near) false m zs ∙ (both_same (is_same_end (end_of node stream) near) (spoken Far zs) ∙ none_silent node near qs) where
      both_same : (c : Bool) (l : List Message) → cond c l l ≡ l
      both_same true l = refl
      both_same false l = refl
