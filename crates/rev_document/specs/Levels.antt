-- Groups of a document: who gets a part, and where the part stands in JSON.
use Rattle.std.specs.Prelude.{Bool, true, false, not, ◌&&◌, ◌||◌, if◌then◌else◌}
use Rattle.rev_document.specs.declared.level.Level.{Level}
use Rattle.rev_document.specs.declared.level.Shape.{Shape}
use Rattle.rev_document.specs.declared.level.Shape.TheVariants as shape
use Rattle.rev_document.specs.declared.level.To.{To}
use Rattle.rev_document.specs.declared.level.To.TheVariants as to
use Rattle.rev_document.specs.declared.part.Place.{Place}
use Rattle.rev_document.specs.declared.part.Place.TheVariants as place

-- an empty document: words and JSON have what comes
abbrev pub top_level : Level
top_level = record {
  shape = shape.Top;
  end = place.Nowhere;
  is_said = true;
  is_kept = true;
  is_within = false;
  is_detail = false;
  is_first = true;
  left = 0;
}

-- words have what is for words or for both, where they have the group
abbrev pub said_at : Level → To → Bool
said_at level to.Words = level.is_said
said_at level (to.Both name) = level.is_said
said_at level (to.Json name) = false

-- an object has members by their names, a list has elements, and a string has all words
abbrev pub place_in : Shape → Bool → To → Place
place_in shape.Phrase first t = place.Inside
place_in shape.Top first t = place.Nowhere
place_in shape.Object first to.Words = place.Nowhere
place_in shape.Object first (to.Json name) = place.Member name first
place_in shape.Object first (to.Both name) = place.Member name first
place_in shape.List first to.Words = place.Nowhere
place_in shape.List first (to.Json name) = place.Element first
place_in shape.List first (to.Both name) = place.Element first

-- a part, where JSON has the group
abbrev pub place_of : Level → To → Place
place_of level t = if level.is_kept then place_in level.shape level.is_first t else place.Nowhere

-- a group: outside of each group it has a line of its own
abbrev pub group_by : Shape → Place → To → Place
group_by shape.Top other to.Words = place.Nowhere
group_by shape.Top other (to.Json name) = place.Top
group_by shape.Top other (to.Both name) = place.Top
group_by shape.Object other t = other
group_by shape.List other t = other
group_by shape.Phrase other t = other

abbrev pub group_place : Level → To → Place
group_place level t = group_by level.shape (place_of level t) t

abbrev pub has_place : Place → Bool
has_place place.Nowhere = false
has_place place.Top = true
has_place (place.Member name first) = true
has_place (place.Element first) = true
has_place place.Inside = true
has_place place.End = true
has_place place.LineEnd = true

-- the end of a group that begins at a place
abbrev pub end_at : Place → Place
end_at place.Nowhere = place.Nowhere
end_at place.Inside = place.Inside
end_at place.Top = place.LineEnd
end_at (place.Member name first) = place.End
end_at (place.Element first) = place.End
end_at place.End = place.End
end_at place.LineEnd = place.End

-- within a string each group is a part of that string
abbrev pub shape_at : Place → Shape → Shape
shape_at place.Inside s = shape.Phrase
shape_at place.Nowhere s = s
shape_at place.Top s = s
shape_at (place.Member name first) s = s
shape_at (place.Element first) s = s
shape_at place.End s = s
shape_at place.LineEnd s = s

-- the level behind a part, of which the group's first one is noted
abbrev pub after_part : Level → Place → Level
after_part level p = record level { is_first = level.is_first && not (has_place p) }

-- the level within a group that begins at a place
abbrev pub inner_level : Level → To → Place → Shape → Level
inner_level level t p s = record {
  shape = shape_at p s;
  end = end_at p;
  is_said = said_at level t;
  is_kept = has_place p;
  is_within = level.is_within || level.is_detail;
  is_detail = false;
  is_first = true;
  left = 0;
}
