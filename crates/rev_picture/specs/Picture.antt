-- A picture of a build as SVG: a line of words, a legend, an axis, and below them rows of 20 units.
use Rattle.std.specs.Prelude.{ℕ, Bool, true, false, nat_lt, ◌==◌, ◌*◌, ◌+◌, ◌/◌, ◌%◌, List, [], ◌∷◌, ◌++◌, Option, Some, None, length, codes, decimal, if◌then◌else◌}
use Rattle.std.specs.List.{flat_map}
use Rattle.std.specs.Option.{option_copied}
use Rattle.rev_picture.specs.Escape.{escaped, escaped_words}
use Rattle.rev_picture.specs.declared.shapes.Bar.{Bar}
use Rattle.rev_picture.specs.declared.shapes.Line.{Line}
use Rattle.rev_picture.specs.declared.shapes.LineKind.{LineKind}
use Rattle.rev_picture.specs.declared.shapes.LineKind.TheVariants.{Dependence, Listed, Observed}
use Rattle.rev_picture.specs.declared.shapes.Outcome.{Outcome}
use Rattle.rev_picture.specs.declared.shapes.Outcome.TheVariants.{Failed, Stopped, Well}
use Rattle.rev_picture.specs.declared.shapes.Time.{Time}
use Rattle.rev_picture.specs.declared.axis.Row.{Row}
use Rattle.rev_picture.specs.declared.axis.Tick.{Tick}

-- how far below the top edge a row begins
abbrev pub top_of : ℕ → ℕ
top_of row = 60 + 20 * row

-- an attribute whose value is a number
unfoldable pub attribute : List ℕ → ℕ → List ℕ
attribute name value = codes " " ++ name ++ codes "=\"" ++ decimal value ++ codes "\""

-- an attribute whose value is words, and one whose value is a name
unfoldable pub words_attribute : List ℕ → List ℕ → List ℕ
words_attribute name words = codes " " ++ name ++ codes "=\"" ++ escaped_words words ++ codes "\""

unfoldable pub name_attribute : List ℕ → List ℕ → List ℕ
name_attribute name value = codes " " ++ name ++ codes "=\"" ++ escaped value ++ codes "\""

-- words where something holds
abbrev pub words_if : Bool → List ℕ → List ℕ
words_if false words = []
words_if true words = words

-- how a bar looks by how its command ended
abbrev pub ended_look : Outcome → List ℕ
ended_look Well = []
ended_look Failed = codes " failed"
ended_look Stopped = codes " stopped"

-- How a bar looks, which the picture's style tells: in its own colour where the command failed or was stopped, hollow
-- where it is undone, red where it is in a race, by lists or as it was observed.
unfoldable pub look : Bar → List ℕ
look b =
    codes "bar" ++ ended_look b.outcome ++ words_if b.undone (codes " undone") ++ words_if b.racing (codes " racing")
    ++ words_if b.observed (codes " observed")

-- the events of a bar: the one that began it, and the one that ended it, which is the same for what takes no time
abbrev pub span : ℕ → Option ℕ → List ℕ
span began None = codes ", event " ++ decimal began ++ codes ", not ended"
span began (Some ended) =
    if ended == began then codes ", event " ++ decimal began
    else codes ", events " ++ decimal began ++ codes " to " ++ decimal ended

-- a time in milliseconds, and from ten seconds on in tenths of a second, cut
abbrev pub duration : ℕ → List ℕ
duration ms =
    if nat_lt ms 10000 then decimal ms ++ codes " ms"
    else decimal (ms / 1000) ++ codes "." ++ decimal (ms / 100 % 10) ++ codes " s"

-- how long a bar took, and when it began
abbrev pub time_text : Option Time → List ℕ
time_text None = []
time_text (Some t) = codes ", " ++ duration t.took ++ codes " from " ++ duration t.from

-- the number of the event that ended a bar, where one did
abbrev pub ended_data : Option ℕ → List ℕ
ended_data None = []
ended_data (Some ended) = attribute (codes "data-ended") ended

-- what a program reads of a bar, behind its class: the numbers of its events
unfoldable pub bar_events : Bar → List ℕ
bar_events b = codes "\"" ++ attribute (codes "data-began") b.began ++ ended_data b.ended

-- and what stands before its name, and the name
abbrev pub bar_names : Bar → List ℕ
bar_names b = words_attribute (codes "data-words") b.words.now ++ name_attribute (codes "data-path") b.name.now

abbrev pub bar_data : Bar → List ℕ
bar_data b = bar_events b ++ bar_names b

-- what is told of a shape to who points at it, behind the end of its tag
unfoldable pub bar_title : Bar → List ℕ
bar_title b =
    codes "><title>" ++ escaped_words b.words.now ++ escaped b.name.now ++ span b.began b.ended ++ time_text b.time
    ++ codes "</title>"

-- the height of a bar, and the end of its tag
unfoldable pub tall : List ℕ
tall = codes " height=\"14\"/>"

-- a bar at a place
unfoldable pub rect : ℕ → ℕ → ℕ → List ℕ
rect x y width =
    codes "<rect" ++ attribute (codes "x") x ++ attribute (codes "y") y ++ attribute (codes "width") width ++ tall

-- the beginning of a text at a place
unfoldable pub text_at : ℕ → ℕ → List ℕ
text_at x y = codes "<text" ++ attribute (codes "x") x ++ attribute (codes "y") y ++ codes ">"

-- what is written beside a bar, if anything: words, and a part of the name
abbrev pub label : ℕ → ℕ → List ℕ → Option (List ℕ) → List ℕ
label x y words None = []
label x y words (Some part) = text_at x y ++ escaped_words words ++ escaped part ++ codes "</text>"

-- where it begins: in the bar, or behind it where that is narrow
abbrev pub label_left : Bar → ℕ
label_left b = if nat_lt b.width 8 then b.left + b.width + 3 else b.left + 3

abbrev pub bar_label : Bar → List ℕ
bar_label b = label (label_left b) (top_of b.row + 14) b.words.now (option_copied b.label)

-- a command or an event: a bar in its row, its name, events and times, and its label
unfoldable pub bar_text : Bar → List ℕ
bar_text b =
    codes "<g class=\"" ++ look b ++ bar_data b ++ bar_title b ++ rect b.left (top_of b.row + 3) b.width
    ++ bar_label b ++ codes "</g>\n"

-- how a line begins: a dependence of the second event on the first, a race of the two by lists, or one that was observed
abbrev pub kind : LineKind → List ℕ
kind Dependence = codes "<g class=\"line\""
kind Listed = codes "<g class=\"race\""
kind Observed = codes "<g class=\"race observed\""

-- a stroke from one place to another
unfoldable pub stroke : ℕ → ℕ → ℕ → ℕ → List ℕ
stroke x y other_x other_y =
    codes "<line" ++ attribute (codes "x1") x ++ attribute (codes "y1") y ++ attribute (codes "x2") other_x
    ++ attribute (codes "y2") other_y ++ codes "/>"

-- the words of a line, below the rows
unfoldable pub line_words : Line → List ℕ
line_words l = text_at 4 l.words_top ++ escaped_words l.words.now ++ codes "</text></g>\n"

-- a line from the place of one event to that of another, with both numbers, and its words
unfoldable pub line_text : Line → List ℕ
line_text l =
    kind l.kind ++ attribute (codes "data-one") l.one ++ attribute (codes "data-other") l.other ++ codes ">"
    ++ stroke l.one_left (top_of l.one_row + 10) l.other_left (top_of l.other_row + 10) ++ line_words l

-- a row's name, at the left
unfoldable pub row_text : ℕ → Row → List ℕ
row_text place r = text_at 4 (top_of place + 14) ++ escaped_words r.name.now ++ codes "</text>\n"

-- the names of rows from a place on
abbrev pub rows_text : ℕ → List Row → List ℕ
rows_text place [] = []
rows_text place (r ∷ rs) = row_text place r ++ rows_text (place + 1) rs

-- a tick of the axis: a stroke across the rows, of which there are so many, and words above them
unfoldable pub tick_head : List ℕ
tick_head = codes "<g class=\"tick\">"

unfoldable pub tick_stroke : ℕ → ℕ → List ℕ
tick_stroke rows left = tick_head ++ stroke left 54 left (top_of rows)

unfoldable pub tick_words : ℕ → List ℕ → List ℕ
tick_words left words = text_at (left + 3) 56 ++ escaped_words words ++ codes "</text></g>\n"

unfoldable pub tick_text : ℕ → Tick → List ℕ
tick_text rows t = tick_stroke rows t.left ++ tick_words t.left t.words.now

-- how each class looks
unfoldable pub style : List ℕ
style =
    codes "<style>text{font:10px monospace;fill:#222}.bar rect{fill:#bcd7f2;stroke:#47a}"
    ++ codes ".failed rect{fill:#f2a33c;stroke:#940}.stopped rect{fill:#ccc;stroke:#666}"
    ++ codes ".racing rect{fill:#f7b9b0;stroke:#c22;stroke-dasharray:3 2}.observed rect{fill:#f7b9b0;stroke:#c22;stroke-dasharray:none}"
    ++ codes ".failed.racing rect,.failed.observed rect{fill:#f2a33c;stroke-width:2}.undone rect{fill:none;stroke-dasharray:1 2}"
    ++ codes ".line line{stroke:#333}.race line{stroke:#c22;stroke-dasharray:5 3}.race.observed line{stroke-dasharray:none}"
    ++ codes ".race text{fill:#c22}.tick line{stroke:#ddd}.tick text{fill:#777}"
    ++ codes ".line:hover line,.race:hover line{stroke-width:4}.line:hover text,.race:hover text{font-weight:bold}</style>\n"

-- a mark of the legend, and what it stands for
unfoldable pub legend_head : List ℕ
legend_head = codes "<g class=\"key"

unfoldable pub legend_look : List ℕ → ℕ → List ℕ
legend_look class x = legend_head ++ class ++ codes "\">" ++ rect x 22 14

unfoldable pub legend_words : ℕ → List ℕ → List ℕ
legend_words x words = text_at (x + 18) 33 ++ words ++ codes "</text></g>\n"

unfoldable pub legend_mark : List ℕ → ℕ → List ℕ → List ℕ
legend_mark class x words = legend_look class x ++ legend_words x words

-- what each look of a bar stands for: first those by how a command ended
unfoldable pub legend_of_ends : List ℕ
legend_of_ends =
    legend_mark (codes " bar") 4 (codes "command") ++ legend_mark (codes " bar failed") 80 (codes "failed")
    ++ legend_mark (codes " bar stopped") 150 (codes "stopped")

unfoldable pub legend_of_undone : List ℕ
legend_of_undone = legend_mark (codes " bar undone") 226 (codes "undone")

unfoldable pub legend_of_listed : List ℕ
legend_of_listed = legend_mark (codes " bar racing") 296 (codes "race by lists")

unfoldable pub legend_of_observed : List ℕ
legend_of_observed = legend_mark (codes " bar observed") 412 (codes "observed race")

abbrev pub legend : List ℕ
legend = legend_of_ends ++ legend_of_undone ++ legend_of_listed ++ legend_of_observed

-- the element's name and its language
unfoldable pub element : List ℕ
element = codes "<svg xmlns=\"http://www.w3.org/2000/svg\""

-- the beginning of the element: how many units it is wide and high
unfoldable pub opening : ℕ → ℕ → List ℕ
opening width height =
    element ++ attribute (codes "width") width ++ attribute (codes "height") height ++ codes ">\n"

-- what stands before all shapes: the style, the line of words, and the legend
unfoldable pub head : ℕ → ℕ → List ℕ → List ℕ
head width height words =
    opening width height ++ style ++ text_at 4 15 ++ escaped_words words ++ codes "</text>\n" ++ legend

-- the whole: so wide and high, the ticks, the rows' names, the bars, and the lines above them
abbrev pub picture : ℕ → ℕ → List ℕ → List Row → List Tick → List Bar → List Line → List ℕ
picture width height words rows ticks bars lines =
    head width height words ++ flat_map (tick_text (length rows)) ticks ++ rows_text 0 rows ++ flat_map bar_text bars
    ++ flat_map line_text lines ++ codes "</svg>\n"
