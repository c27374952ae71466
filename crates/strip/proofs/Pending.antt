-- Passes over joints one after another, from what `pieces` says of pieces: what the first and the second need of both, and what they do together; then a pass
-- that is part of the way (`Midway`), from its start to its end. Assumes nothing.
use Prim.Native.Nat.{◌<◌}
use mathlib.Core.Path.{◌≡◌, refl, sym, ap, ◌∙◌}
use mathlib.Core.Bool.{Bool}
use mathlib.Core.List.{List, [], ◌++◌, append_assoc, append-nil}
use Rattle.endpoint.specs.declared.EndpointData.{EndpointData}
use Rattle.endpoint.specs.Endpoint.{id_limit}
use Rattle.lists.proofs.All.{all_front, all_back}
use Rattle.pieces.specs.Piece.{Piece, Lists, laid}
use Rattle.pieces.specs.Piece as piece
use Rattle.pieces.proofs.Pieces as pieces
use Rattle.strip.specs.declared.Strip.{Strip}
use Rattle.strip.specs.Joint.{vertices_of}
use Rattle.strip.specs.Strip.{steps_of, triangles_from, piece_of, StripFits, StripPasses}
use Rattle.strip.proofs.Steps.{steps_append, pieces_append, steps_place, sound_steps}

-- the same of the piece
pub puts_piece : {write : Bool} {js : List EndpointData} {s s' : Strip} {l l' : Lists} → StripPasses write js s l l' s' → piece.Passes write s.place (piece_of s js) l l' s'.place
puts_piece {js = js} {s = s} e = record { place = ap (λ (x : Strip). x.place) e.state ∙ steps_place s js; lists = e.lays }

module _ {write : Bool} {s : Strip} {l : Lists} where
  -- nothing
  pub puts_none : StripPasses write [] s l l s
  unfolding steps_of vertices_of triangles_from
  puts_none = record { state = refl; lays = λ w. sym (pieces.laid_none s.place l) }

  -- one pass after another
  pub has_front : (xs ys : List EndpointData) → StripFits write s (xs ++ ys) l → StripFits write s xs l
  has_front xs ys h = record { sound = h.sound; numbered = all_front (λ (j : EndpointData). j.id.0 < id_limit) xs ys h.numbered; fits = pieces.fits_front (piece_of s xs) (piece_of (steps_of s xs) ys) (rw (pieces_append s xs ys) at h.fits) }

  pub has_back : (xs ys : List EndpointData) → StripFits write s (xs ++ ys) l → {l1 : Lists} {s1 : Strip} → StripPasses write xs s l l1 s1 → StripFits write s1 ys l1
  has_back xs ys h e =
      let f = rw (pieces_append s xs ys) at h.fits in
      rw e.state (record {
        sound = sound_steps s xs h.sound;
        numbered = all_back (λ (j : EndpointData). j.id.0 < id_limit) xs ys h.numbered;
        fits = pieces.fits_back (piece_of s xs) (piece_of (steps_of s xs) ys) f (record { place = steps_place s xs; lists = e.lays });
      })

  pub puts_both : {xs ys : List EndpointData} {l1 l2 : Lists} {s1 s2 : Strip} → StripPasses write xs s l l1 s1 → StripPasses write ys s1 l1 l2 s2 → StripPasses write (xs ++ ys) s l l2 s2
  puts_both {xs} {ys} e f =
      let b = pieces.puts_both (puts_piece e) (puts_piece f) in
      record {
        state = f.state ∙ rw e.state (sym (steps_append s xs ys));
        lays = λ w. b.lists w ∙ ap (λ (p : Piece). laid s.place p l) (rw e.state (sym (pieces_append s xs ys)));
      }

-- part of the way: of the joints js0, from the state s0 and the lists l0 on, js are to come at the state s and the lists l
pub record Midway (write : Bool) (s0 : Strip) (js0 : List EndpointData) (l0 : Lists) (js : List EndpointData) (s : Strip) (l : Lists) : Type 0 where
  pub done : List EndpointData
  pub split : js0 ≡ done ++ js
  pub puts : StripPasses write done s0 l0 l s

pub midway_start : {write : Bool} {s : Strip} {js : List EndpointData} {l : Lists} → Midway write s js l js s l
midway_start = record { done = []; split = refl; puts = puts_none }

module _ {write : Bool} {s0 : Strip} {js0 : List EndpointData} {l0 : Lists} {s : Strip} {l : Lists} where
  pub midway_has : (xs js : List EndpointData) → StripFits write s0 js0 l0 → Midway write s0 js0 l0 (xs ++ js) s l → StripFits write s xs l
  midway_has xs js h m = has_front xs js (has_back m.done (xs ++ js) (rw m.split at h) m.puts)

  pub midway_put : (xs js : List EndpointData) → Midway write s0 js0 l0 (xs ++ js) s l → {s1 : Strip} {l1 : Lists} → StripPasses write xs s l l1 s1 → Midway write s0 js0 l0 js s1 l1
  midway_put xs js m e = record { done = m.done ++ xs; split = m.split ∙ sym (append_assoc m.done xs js); puts = puts_both m.puts e }

  pub midway_end : Midway write s0 js0 l0 [] s l → StripPasses write js0 s0 l0 l s
  midway_end m = rw (m.split, append-nil m.done) m.puts
