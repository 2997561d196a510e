-- A datagram's way leads to the neighbour for which it was queued, and there is one to each neighbour.
use Rattle.std.proofs.Common.{◌≡◌, refl, sym, ap, ◌∙◌, subst, arith, ℕ, zero, suc, ◌+◌, ◌-◌, ◌==◌, Bool, true, false, cond, List, [], ◌∷◌, slice_get, Option, Some, None}
use Rattle.std.proofs.lemmas.Option.{none-some, same_Some}
use Rattle.std.specs.List.{AllZip}
use Rattle.grasp_laws_network.proofs.Routing.{IsOther, is_other, among_others, IsFoundAt, found_at, place_is, line_again, line_has, next, not_none, less_one, sum_is}
use Rattle.grasp_model_network.specs.GoodSetting.{IsGoodSetting, IsLinkAlong, IsNeighbour}
use Rattle.grasp_model_network.specs.Routes.{Route, place_among, route_to, route_along, route_on, route_of}
use Rattle.grasp_model_network.specs.Setting.{Member, Setting, is_on, line_from, line_of, lines_of, link_of, numbered, others_on}
use Rattle.grasp_types.specs.declared.links.Neighbour.{Neighbour}
use Rattle.grasp_laws_events.specs.Ways.{HasNeighbour, LeadsTo, WaysLeadToNeighbours}

-- ---- two lists, place by place

zip_at : {A B : Type 0} (R : A → B → Type 0) (xs : List A) (ys : List B) (i : ℕ) (x : A) → AllZip R xs ys → slice_get xs i ≡ Some x → (y : B) × (slice_get ys i ≡ Some y) × R x y
zip_at R [] ys i x z e = absurd (none-some x e)
zip_at R (a ∷ xs) [] i x z e = absurd z
zip_at R (a ∷ xs) (b ∷ ys) zero x z e = (b, refl, subst (λ k. R k b) (same_Some a x e) z.0)
zip_at R (a ∷ xs) (b ∷ ys) (suc i) x z e = zip_at R xs ys i x z.1 e

zip_back : {A B : Type 0} (R : A → B → Type 0) (xs : List A) (ys : List B) (i : ℕ) (y : B) → AllZip R xs ys → slice_get ys i ≡ Some y → (x : A) × (slice_get xs i ≡ Some x) × R x y
zip_back R xs [] i y z e = absurd (none-some y e)
zip_back R [] (b ∷ ys) i y z e = absurd z
zip_back R (a ∷ xs) (b ∷ ys) zero y z e = (a, refl, subst (λ k. R a k) (same_Some b y e) z.0)
zip_back R (a ∷ xs) (b ∷ ys) (suc i) y z e = zip_back R xs ys i y z.1 e

-- ---- the line that is a node's link of a number

-- the line stands at a place among the lines, counted from this one, and is the node's link of that number
record IsLine (node first link place : ℕ) (lines : List (List ℕ)) : Type 0 where
  before : ℕ
  place_is : place ≡ first + before
  line : List ℕ
  stands : slice_get lines before ≡ Some line
  is_link : slice_get (lines_of node lines) link ≡ Some line

-- a line more, on which the node is, or isn't
line_on : (node first link place : ℕ) (l : List ℕ) (lines : List (List ℕ)) → is_on node l ≡ true → IsLine node (first + 1) link place lines → IsLine node first (suc link) place (l ∷ lines)
line_on node first link place l lines on f = record {
  before = suc f.before;
  place_is = let p : place ≡ (first + 1) + f.before = f.place_is in omega arith;
  line = f.line;
  stands = f.stands;
  is_link = rw on f.is_link;
}

line_off : (node first link place : ℕ) (l : List ℕ) (lines : List (List ℕ)) → is_on node l ≡ false → IsLine node (first + 1) link place lines → IsLine node first link place (l ∷ lines)
line_off node first link place l lines off f = record {
  before = suc f.before;
  place_is = let p : place ≡ (first + 1) + f.before = f.place_is in omega arith;
  line = f.line;
  stands = f.stands;
  is_link = rw off f.is_link;
}

first_on : (node first place : ℕ) (l : List ℕ) (lines : List (List ℕ)) → is_on node l ≡ true → Some first ≡ Some place → IsLine node first 0 place (l ∷ lines)
first_on node first place l lines on e = record {
  before = 0;
  place_is = let p : first ≡ place = same_Some first place e in omega arith;
  line = l;
  stands = refl;
  is_link = rw on refl;
}

-- a line that is found as a link is one
line_is : (node first link place : ℕ) (lines : List (List ℕ)) → line_from first node lines link ≡ Some place → IsLine node first link place lines
unfolding line_from
line_is node first link place [] e = absurd (none-some place e)
line_is node first link place (l ∷ lines) e = by_on (is_on node l) refl link e (λ k f. line_is node (first + 1) k place lines f) where
  by_on : (b : Bool) → is_on node l ≡ b → (link : ℕ)
      → cond b (cond (link == 0) (Some first) (line_from (first + 1) node lines (link - 1))) (line_from (first + 1) node lines link) ≡ Some place
      → ((k : ℕ) → line_from (first + 1) node lines k ≡ Some place → IsLine node (first + 1) k place lines) → IsLine node first link place (l ∷ lines)
  by_on true on zero f more = first_on node first place l lines on f
  by_on true on (suc link) f more =
      line_on node first link place l lines on
      (more link (subst (λ k. line_from (first + 1) node lines k ≡ Some place) (less_one link)
      (subst (λ b. cond b (Some first) (line_from (first + 1) node lines (suc link - 1)) ≡ Some place) (not_none link) f)))
  by_on false on link f more = line_off node first link place l lines on (more link f)

-- and each of the node's links is a line that is found
record IsFoundLine (node first link : ℕ) (lines : List (List ℕ)) (line : List ℕ) : Type 0 where
  before : ℕ
  found : line_from first node lines link ≡ Some (first + before)
  stands : slice_get lines before ≡ Some line

line_found : (node first link : ℕ) (lines : List (List ℕ)) (line : List ℕ) → slice_get (lines_of node lines) link ≡ Some line → IsFoundLine node first link lines line
unfolding line_from
line_found node first link [] line e = absurd (none-some line e)
line_found node first link (l ∷ lines) line e = by_on (is_on node l) refl link e (λ k f. line_found node (first + 1) k lines line f) where
  none_more : (k : ℕ) → k + 0 ≡ k
  none_more k = omega arith

  by_on : (b : Bool) → is_on node l ≡ b → (link : ℕ) → slice_get (cond b (l ∷ lines_of node lines) (lines_of node lines)) link ≡ Some line
      → ((k : ℕ) → slice_get (lines_of node lines) k ≡ Some line → IsFoundLine node (first + 1) k lines line) → IsFoundLine node first link (l ∷ lines) line
  by_on true on zero f more = record { before = 0; found = rw on (ap (λ k. Some k) (sym (none_more first))); stands = f }
  by_on true on (suc link) f more = behind (more link f) where
    behind : IsFoundLine node (first + 1) link lines line → IsFoundLine node first (suc link) (l ∷ lines) line
    behind h = record {
      before = suc h.before;
      found = rw on (rw (not_none link) (rw (less_one link) (h.found ∙ ap (λ k. Some k) (next first h.before))));
      stands = h.stands;
    }
  by_on false on link f more = behind (more link f) where
    behind : IsFoundLine node (first + 1) link lines line → IsFoundLine node first link (l ∷ lines) line
    behind h = record { before = suc h.before; found = rw on (h.found ∙ ap (λ k. Some k) (next first h.before)); stands = h.stands }

-- ---- the way along a line

module _ (s : Setting) (node : ℕ) (m : Member) (good : IsGoodSetting s) (found : numbered s.members node ≡ Some m) where
  abbrev way : ℕ → List ℕ → ℕ → Route
  way place line receiver = record { receiver = receiver; link = link_of receiver s.lines place; from = place_among node (others_on receiver line) }

  -- the sender is a neighbour of the receiver there
  back_there : (x : Neighbour) (link to place receiver : ℕ) (line : List ℕ) → line_of node s.lines link ≡ Some place → slice_get s.lines place ≡ Some line
      → slice_get (others_on node line) to ≡ Some receiver → IsNeighbour s x receiver → LeadsTo s m x (way place line receiver)
  back_there x link to place receiver line at stands to_receiver is = by_links (line_is receiver 0 (link_of receiver s.lines place) (0 + place) s.lines (line_again receiver 0 place line s.lines stands other.on)) where
    other : IsOther node receiver line
    other = is_other node receiver to line to_receiver

    among : IsFoundAt node (others_on receiver line)
    among = found_at node (others_on receiver line) (among_others receiver node line (λ e. other.other (sym e)) (line_has node link place s.lines line at stands))

    by_neighbours : (ns : List Neighbour) → slice_get is.member.plan.links (link_of receiver s.lines place) ≡ Some ns → AllZip (IsNeighbour s) ns (others_on receiver line)
        → LeadsTo s m x (way place line receiver)
    by_neighbours ns on zips = by_back (zip_back (IsNeighbour s) ns (others_on receiver line) (place_among node (others_on receiver line)) node zips there) where
      there : slice_get (others_on receiver line) (place_among node (others_on receiver line)) ≡ Some node
      there = subst (λ k. slice_get (others_on receiver line) k ≡ Some node) (sym (place_is node (others_on receiver line) among.within)) among.stands

      by_back : (back : Neighbour) × (slice_get ns (place_among node (others_on receiver line)) ≡ Some back) × IsNeighbour s back node → LeadsTo s m x (way place line receiver)
      by_back (back, at_back, is_back) = record {
        receiver = is.member;
        found = is.found;
        address = is.address;
        locator = is.locator;
        back = back;
        from = record { neighbours = ns; on = on; at = at_back };
        back_address = is_back.address ∙ ap (λ (k : Member). k.plan.address) same;
        back_locator = is_back.locator ∙ ap (λ (k : Member). k.plan.locator) same;
      } where
        same : is_back.member ≡ m
        same = same_Some is_back.member m (sym is_back.found ∙ found)

    by_links : IsLine receiver 0 (link_of receiver s.lines place) (0 + place) s.lines → LeadsTo s m x (way place line receiver)
    by_links l = by_zip (zip_back (IsLinkAlong s receiver) is.member.plan.links (lines_of receiver s.lines) (link_of receiver s.lines place) line (good.linked receiver is.member is.found) is_line) where
      place_same : l.before ≡ place
      place_same = let p : 0 + place ≡ 0 + l.before = l.place_is in omega arith

      is_line : slice_get (lines_of receiver s.lines) (link_of receiver s.lines place) ≡ Some line
      is_line = l.is_link ∙ ap (λ k. Some k) (same_Some l.line line (sym (subst (λ k. slice_get s.lines k ≡ Some l.line) place_same l.stands) ∙ stands))

      by_zip : (ns : List Neighbour) × (slice_get is.member.plan.links (link_of receiver s.lines place) ≡ Some ns) × IsLinkAlong s receiver ns line
          → LeadsTo s m x (way place line receiver)
      by_zip (ns, on, zips) = by_neighbours ns on zips

  -- the neighbour to whom it leads
  leads : (link to place receiver : ℕ) (line : List ℕ) → line_of node s.lines link ≡ Some place → slice_get s.lines place ≡ Some line
      → slice_get (others_on node line) to ≡ Some receiver → (x : Neighbour) × HasNeighbour m link to x × LeadsTo s m x (way place line receiver)
  leads link to place receiver line at stands to_receiver = by_line (line_is node 0 link place s.lines at) where
    by_line : IsLine node 0 link place s.lines → (x : Neighbour) × HasNeighbour m link to x × LeadsTo s m x (way place line receiver)
    by_line l = by_links (zip_back (IsLinkAlong s node) m.plan.links (lines_of node s.lines) link line (good.linked node m found) is_line) where
      place_same : l.before ≡ place
      place_same = let p : place ≡ 0 + l.before = l.place_is in omega arith

      is_line : slice_get (lines_of node s.lines) link ≡ Some line
      is_line = l.is_link ∙ ap (λ k. Some k) (same_Some l.line line (sym (subst (λ k. slice_get s.lines k ≡ Some l.line) place_same l.stands) ∙ stands))

      by_links : (ns : List Neighbour) × (slice_get m.plan.links link ≡ Some ns) × IsLinkAlong s node ns line → (x : Neighbour) × HasNeighbour m link to x × LeadsTo s m x (way place line receiver)
      by_links (ns, on, zips) = by_neighbour (zip_back (IsNeighbour s) ns (others_on node line) to receiver zips to_receiver) where
        by_neighbour : (x : Neighbour) × (slice_get ns to ≡ Some x) × IsNeighbour s x receiver → (x : Neighbour) × HasNeighbour m link to x × LeadsTo s m x (way place line receiver)
        by_neighbour (x, at_x, is) = (x, record { neighbours = ns; on = on; at = at_x }, back_there x link to place receiver line at stands to_receiver is)

  only : (link to : ℕ) (r : Route) → route_of s node link to ≡ Some r → (x : Neighbour) × HasNeighbour m link to x × LeadsTo s m x r
  unfolding route_of
  only link to r is = by_place (line_of node s.lines link) refl is where
    by_receiver : (place : ℕ) (line : List ℕ) (o : Option ℕ) → line_of node s.lines link ≡ Some place → slice_get s.lines place ≡ Some line → slice_get (others_on node line) to ≡ o
        → route_to node s.lines place line o ≡ Some r → (x : Neighbour) × HasNeighbour m link to x × LeadsTo s m x r
    by_receiver place line None at stands to_receiver e = absurd (none-some r e)
    by_receiver place line (Some receiver) at stands to_receiver e =
        subst (λ (q : Route). (x : Neighbour) × HasNeighbour m link to x × LeadsTo s m x q) (same_Some (way place line receiver) r e) (leads link to place receiver line at stands to_receiver)

    by_line : (place : ℕ) (o : Option (List ℕ)) → line_of node s.lines link ≡ Some place → slice_get s.lines place ≡ o → route_along node s.lines to place o ≡ Some r
        → (x : Neighbour) × HasNeighbour m link to x × LeadsTo s m x r
    by_line place None at stands e = absurd (none-some r e)
    by_line place (Some line) at stands e = by_receiver place line (slice_get (others_on node line) to) at stands refl e

    by_place : (o : Option ℕ) → line_of node s.lines link ≡ o → route_on node s.lines to o ≡ Some r → (x : Neighbour) × HasNeighbour m link to x × LeadsTo s m x r
    by_place None at e = absurd (none-some r e)
    by_place (Some place) at e = by_line place (slice_get s.lines place) at refl e

  each : (link to : ℕ) (x : Neighbour) → HasNeighbour m link to x → (r : Route) × (route_of s node link to ≡ Some r) × LeadsTo s m x r
  unfolding route_of
  each link to x h = by_line (zip_at (IsLinkAlong s node) m.plan.links (lines_of node s.lines) link h.neighbours (good.linked node m found) h.on) where
    by_line : (line : List ℕ) × (slice_get (lines_of node s.lines) link ≡ Some line) × IsLinkAlong s node h.neighbours line
        → (r : Route) × (route_on node s.lines to (line_of node s.lines link) ≡ Some r) × LeadsTo s m x r
    by_line (line, on, zips) = by_receiver (zip_at (IsNeighbour s) h.neighbours (others_on node line) to x zips h.at) (line_found node 0 link s.lines line on) where
      by_receiver : (receiver : ℕ) × (slice_get (others_on node line) to ≡ Some receiver) × IsNeighbour s x receiver → IsFoundLine node 0 link s.lines line
          → (r : Route) × (route_on node s.lines to (line_of node s.lines link) ≡ Some r) × LeadsTo s m x r
      by_receiver (receiver, to_receiver, is) f = (way f.before line receiver, route, back_there x link to f.before receiver line at f.stands to_receiver is) where
        at : line_of node s.lines link ≡ Some f.before
        at = f.found ∙ ap (λ k. Some k) (sum_is f.before)

        route : route_on node s.lines to (line_of node s.lines link) ≡ Some (way f.before line receiver)
        route = ap (route_on node s.lines to) at ∙ (ap (route_along node s.lines to f.before) f.stands ∙ ap (route_to node s.lines f.before line) to_receiver)

pub ways_lead_to_neighbours : WaysLeadToNeighbours
ways_lead_to_neighbours s node m good found = record { each = each s node m good found; only = only s node m good found }
