-- How text stands in each format.
use Rattle.std.specs.Prelude.{ℕ, ◌+◌, ◌/◌, ◌%◌, ◌==◌, ◌&&◌, ◌||◌, Bool, nat_le, nat_lt, if◌then◌else◌, List, [], ◌∷◌, codes}
use Rattle.std.specs.List.{flat_map}

-- GitHub's workflow commands: `%`, CR and LF are escaped in a message, and `:` and `,` besides in a property
abbrev pub message_byte : ℕ → List ℕ
message_byte b =
    if b == 37 then codes "%25" else if b == 13 then codes "%0D" else if b == 10 then codes "%0A" else b ∷ []

abbrev pub message : List ℕ → List ℕ
message text = flat_map message_byte text

abbrev pub property_byte : ℕ → List ℕ
property_byte b = if b == 58 then codes "%3A" else if b == 44 then codes "%2C" else message_byte b

abbrev pub property : List ℕ → List ℕ
property text = flat_map property_byte text

-- a visible byte of ASCII, or a space; any other one is a question mark
abbrev pub is_plain : ℕ → Bool
is_plain b = nat_le 32 b && nat_lt b 127

abbrev pub plain_byte : ℕ → List ℕ
plain_byte b = if is_plain b then b ∷ [] else codes "?"

-- a string of JSON
abbrev pub json_byte : ℕ → List ℕ
json_byte b =
    if b == 34 then 92 ∷ 34 ∷ [] else if b == 92 then 92 ∷ 92 ∷ [] else if b == 10 then 92 ∷ 110 ∷ [] else plain_byte b

abbrev pub json : List ℕ → List ℕ
json text = flat_map json_byte text

-- a text of XML
abbrev pub xml_byte : ℕ → List ℕ
xml_byte b =
    if b == 38 then codes "&amp;" else if b == 60 then codes "&lt;" else if b == 62 then codes "&gt;"
    else if b == 34 then codes "&quot;" else if b == 10 then codes "&#10;" else plain_byte b

abbrev pub xml : List ℕ → List ℕ
xml text = flat_map xml_byte text

-- a path of a URI: unreserved bytes and slashes as they are, and others by two digits
abbrev pub is_uri : ℕ → Bool
is_uri b =
    (nat_le 97 b && nat_le b 122) || (nat_le 65 b && nat_le b 90) || (nat_le 48 b && nat_le b 57) || b == 45 || b == 46
    || b == 95 || b == 126 || b == 47

abbrev pub hex_digit : ℕ → ℕ
hex_digit n = if nat_lt n 10 then 48 + n else 55 + n

abbrev pub uri_byte : ℕ → List ℕ
uri_byte b = if is_uri b then b ∷ [] else 37 ∷ hex_digit (b / 16) ∷ hex_digit (b % 16) ∷ []

abbrev pub uri : List ℕ → List ℕ
uri text = flat_map uri_byte text
