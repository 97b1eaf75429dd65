-- Tables of a profile for pprof to which rows are appended: what ids stand for stays, and each value has one id.
use Rattle.std.proofs.Common.{◌≡◌, ◌∙◌, ◌-◌, inl, inr, ap, refl, sym, subst, arith, ℕ, List, [], ◌∷◌, slice_get, Option, None, Some, Result, Ok, Err, IfOk, OnOk}
use Rattle.perfdata_profile.proofs.Elements.{some_same}
use Rattle.perfdata_profile.proofs.Growing.{at_kept, grows_equal, grows_same, grows_trans}
use Rattle.perfdata_profile.specs.Samples.{AreRelated}
use Rattle.perfdata_profile.specs.Values.{LineValue, LocationValue, RangeValue}
use Rattle.perfdata_views.specs.PprofSamples.{HasId, IsFile, IsFileOf, IsFunction, IsLabel, IsLine, IsLocation, IsShown, IsText, IsType, LabelValue, ShownSample}
use Rattle.perfdata_views.specs.steps.PprofSamples.{AreOnce, Extends, Keeps}
use Rattle.pprof.specs.Rows.{AreDistinct, Grows, Identifies, Interns}
use Rattle.pprof.specs.Samples.{Row}
use Rattle.pprof.specs.Tables.{Place, Tables}
use Rattle.pprof.specs.Texts.{AreStrings}
use Rattle.pprof.specs.declared.builder.FunctionNames.{FunctionNames}
use Rattle.pprof.specs.declared.builder.MappedFile.{MappedFile}
use Rattle.pprof.specs.declared.profile.Label.{Label}
use Rattle.pprof.specs.declared.profile.Line.{Line}

-- What holds of a value that is returned.
pub ok_of : {T E : Type 0} {P Q : T → Type 0} (result : Result T E) → ((x : T) → P x → Q x) → IfOk result P → IfOk result Q
ok_of (Ok x) follows holds = follows x holds
ok_of (Err e) follows holds = holds

pub on_ok_of : {T E A : Type 0} {P : T → Type 0} (result : Result T E) → ((x : T) → P x → A) → IfOk result P → OnOk result A
on_ok_of (Ok x) follows holds = follows x holds
on_ok_of (Err e) follows holds = holds

pub interns_grow : {A : Type 0} → (old new : List A) (row : A) (index : ℕ) → Interns old row index new → Grows old new
interns_grow old new row index interns = elim interns.adds [
  | inl same ↦ grows_equal old new same
  | inr more ↦ (row ∷ [], more)
]

pub extends_same : (tables : Tables) → Extends tables tables
extends_same tables = record {
  keeps = record {
    strings = grows_same tables.strings;
    mappings = grows_same tables.mappings;
    functions = grows_same tables.functions;
    locations = grows_same tables.locations;
    types = refl;
    once = λ once. once;
  };
  samples = refl;
}

pub keeps_trans : (first second third : Tables) → Keeps first second → Keeps second third → Keeps first third
keeps_trans first second third keeps more = record {
  strings = grows_trans first.strings second.strings third.strings keeps.strings more.strings;
  mappings = grows_trans first.mappings second.mappings third.mappings keeps.mappings more.mappings;
  functions = grows_trans first.functions second.functions third.functions keeps.functions more.functions;
  locations = grows_trans first.locations second.locations third.locations keeps.locations more.locations;
  types = more.types ∙ keeps.types;
  once = λ once. more.once (keeps.once once);
}

pub extends_trans : (first second third : Tables) → Extends first second → Extends second third → Extends first third
extends_trans first second third extends more = record {
  keeps = keeps_trans first second third extends.keeps more.keeps;
  samples = more.samples ∙ extends.samples;
}

-- A text, a file, a function or a location is added, or is there already.
module _ (old new : Tables) where
  extends_by : Grows old.strings new.strings → Grows old.mappings new.mappings → Grows old.functions new.functions → Grows old.locations new.locations
      → new.types ≡ old.types → new.samples ≡ old.samples → (AreOnce old → AreOnce new) → Extends old new
  extends_by strings mappings functions locations types samples once = record {
    keeps = record { strings = strings; mappings = mappings; functions = functions; locations = locations; types = types; once = once };
    samples = samples;
  }

  pub text_extends : Grows old.strings new.strings → AreStrings new.strings → new ≡ record old { strings = new.strings } → Extends old new
  text_extends grows once rest =
      let mappings : new.mappings ≡ old.mappings = ap (λ (t : Tables). t.mappings) rest in
      let functions : new.functions ≡ old.functions = ap (λ (t : Tables). t.functions) rest in
      let locations : new.locations ≡ old.locations = ap (λ (t : Tables). t.locations) rest in
      extends_by grows (grows_equal old.mappings new.mappings mappings) (grows_equal old.functions new.functions functions)
      (grows_equal old.locations new.locations locations) (ap (λ (t : Tables). t.types) rest) (ap (λ (t : Tables). t.samples) rest)
      (λ was. record {
        strings = once;
        mappings = subst AreDistinct (sym mappings) was.mappings;
        functions = subst AreDistinct (sym functions) was.functions;
        locations = subst AreDistinct (sym locations) was.locations;
      })

  pub interned_extends : (text : List ℕ) (index : ℕ) → Interns old.strings text index new.strings → AreStrings new.strings
      → new ≡ record old { strings = new.strings } → Extends old new
  interned_extends text index interns once rest = text_extends (interns_grow old.strings new.strings text index interns) once rest

  pub file_extends : (file : MappedFile) (id : ℕ) → Identifies old.mappings file id new.mappings → AreDistinct new.mappings
      → new ≡ record old { mappings = new.mappings } → Extends old new
  file_extends file id identifies once rest =
      let strings : new.strings ≡ old.strings = ap (λ (t : Tables). t.strings) rest in
      let functions : new.functions ≡ old.functions = ap (λ (t : Tables). t.functions) rest in
      let locations : new.locations ≡ old.locations = ap (λ (t : Tables). t.locations) rest in
      extends_by (grows_equal old.strings new.strings strings) (interns_grow old.mappings new.mappings file (id - 1) identifies.interns)
      (grows_equal old.functions new.functions functions) (grows_equal old.locations new.locations locations)
      (ap (λ (t : Tables). t.types) rest) (ap (λ (t : Tables). t.samples) rest) (λ was. record {
        strings = subst AreStrings (sym strings) was.strings;
        mappings = once;
        functions = subst AreDistinct (sym functions) was.functions;
        locations = subst AreDistinct (sym locations) was.locations;
      })

  pub function_extends : (names : FunctionNames) (id : ℕ) → Identifies old.functions names id new.functions → AreDistinct new.functions
      → new ≡ record old { functions = new.functions } → Extends old new
  function_extends names id identifies once rest =
      let strings : new.strings ≡ old.strings = ap (λ (t : Tables). t.strings) rest in
      let mappings : new.mappings ≡ old.mappings = ap (λ (t : Tables). t.mappings) rest in
      let locations : new.locations ≡ old.locations = ap (λ (t : Tables). t.locations) rest in
      extends_by (grows_equal old.strings new.strings strings) (grows_equal old.mappings new.mappings mappings)
      (interns_grow old.functions new.functions names (id - 1) identifies.interns) (grows_equal old.locations new.locations locations)
      (ap (λ (t : Tables). t.types) rest) (ap (λ (t : Tables). t.samples) rest) (λ was. record {
        strings = subst AreStrings (sym strings) was.strings;
        mappings = subst AreDistinct (sym mappings) was.mappings;
        functions = once;
        locations = subst AreDistinct (sym locations) was.locations;
      })

  pub location_extends : (row : Place) (id : ℕ) → Identifies old.locations row id new.locations → AreDistinct new.locations
      → new ≡ record old { locations = new.locations } → Extends old new
  location_extends row id identifies once rest =
      let strings : new.strings ≡ old.strings = ap (λ (t : Tables). t.strings) rest in
      let mappings : new.mappings ≡ old.mappings = ap (λ (t : Tables). t.mappings) rest in
      let functions : new.functions ≡ old.functions = ap (λ (t : Tables). t.functions) rest in
      extends_by (grows_equal old.strings new.strings strings) (grows_equal old.mappings new.mappings mappings)
      (grows_equal old.functions new.functions functions) (interns_grow old.locations new.locations row (id - 1) identifies.interns)
      (ap (λ (t : Tables). t.types) rest) (ap (λ (t : Tables). t.samples) rest) (λ was. record {
        strings = subst AreStrings (sym strings) was.strings;
        mappings = subst AreDistinct (sym mappings) was.mappings;
        functions = subst AreDistinct (sym functions) was.functions;
        locations = once;
      })

  pub samples_keep : (samples : List Row) → new ≡ record old { samples = samples } → Keeps old new
  samples_keep samples is =
      let strings : new.strings ≡ old.strings = ap (λ (t : Tables). t.strings) is in
      let mappings : new.mappings ≡ old.mappings = ap (λ (t : Tables). t.mappings) is in
      let functions : new.functions ≡ old.functions = ap (λ (t : Tables). t.functions) is in
      let locations : new.locations ≡ old.locations = ap (λ (t : Tables). t.locations) is in
      record {
        strings = grows_equal old.strings new.strings strings;
        mappings = grows_equal old.mappings new.mappings mappings;
        functions = grows_equal old.functions new.functions functions;
        locations = grows_equal old.locations new.locations locations;
        types = ap (λ (t : Tables). t.types) is;
        once = λ was. record {
          strings = subst AreStrings (sym strings) was.strings;
          mappings = subst AreDistinct (sym mappings) was.mappings;
          functions = subst AreDistinct (sym functions) was.functions;
          locations = subst AreDistinct (sym locations) was.locations;
        };
      }

-- The row of an id that was just given.
pub has_id : {A : Type 0} → (old new : List A) (row : A) (id : ℕ) → Identifies old row id new → HasId new id row
has_id old new row id identifies = (identifies.is_id.positive, identifies.interns.is_at)

-- The elements of two lists, by another relation.
related_by : {A B : Type 0} → (first second : A → B → Type 0) → ((x : A) (y : B) → first x y → second x y) → (xs : List A) (ys : List B)
    → AreRelated first xs ys → AreRelated second xs ys
related_by first second weaker [] [] are = tt
related_by first second weaker [] (y ∷ ys) are = absurd are
related_by first second weaker (x ∷ xs) [] are = absurd are
related_by first second weaker (x ∷ xs) (y ∷ ys) are = (weaker x y are.0, related_by first second weaker xs ys are.1)

related_same : {A B : Type 0} → (relation : A → B → Type 0) → ((x y : A) (z : B) → relation x z → relation y z → x ≡ y) → (xs ys : List A) (zs : List B)
    → AreRelated relation xs zs → AreRelated relation ys zs → xs ≡ ys
related_same relation same [] [] [] are also = refl
related_same relation same (x ∷ xs) ys [] are also = absurd are
related_same relation same [] (y ∷ ys) [] are also = absurd also
related_same relation same [] ys (z ∷ zs) are also = absurd are
related_same relation same (x ∷ xs) [] (z ∷ zs) are also = absurd also
related_same {A} relation same (x ∷ xs) (y ∷ ys) (z ∷ zs) are also =
    ap (λ (first : A). first ∷ xs) (same x y z are.0 also.0) ∙ ap (λ (rest : List A). y ∷ rest) (related_same relation same xs ys zs are.1 also.1)

related_one : {A B : Type 0} → (relation : A → B → Type 0) → ((x : A) (y z : B) → relation x y → relation x z → y ≡ z) → (xs : List A) (ys zs : List B)
    → AreRelated relation xs ys → AreRelated relation xs zs → ys ≡ zs
related_one relation one [] [] [] are also = refl
related_one relation one [] (y ∷ ys) zs are also = absurd are
related_one relation one [] [] (z ∷ zs) are also = absurd also
related_one relation one (x ∷ xs) [] zs are also = absurd are
related_one relation one (x ∷ xs) (y ∷ ys) [] are also = absurd also
related_one {A} {B} relation one (x ∷ xs) (y ∷ ys) (z ∷ zs) are also =
    ap (λ (first : B). first ∷ ys) (one x y z are.0 also.0) ∙ ap (λ (rest : List B). z ∷ rest) (related_one relation one xs ys zs are.1 also.1)

pub type_kept : (old new : Tables) → Grows old.strings new.strings → Grows old.types new.types → (index : ℕ) (name unit : List ℕ)
    → IsType old index name unit → IsType new index name unit
type_kept old new strings types index name unit is = record {
  value_type = is.value_type;
  is_at = at_kept old.types new.types types index is.value_type is.is_at;
  name_is = at_kept old.strings new.strings strings is.value_type.kind _ is.name_is;
  unit_is = at_kept old.strings new.strings strings is.value_type.unit _ is.unit_is;
}

-- What ids stand for stays.
module _ (old new : Tables) (keeps : Keeps old new) where
  pub text_kept : (index : ℕ) (text : List ℕ) → IsText old index text → IsText new index text
  text_kept index text is = at_kept old.strings new.strings keeps.strings index text is

  file_kept : (id : ℕ) (range : RangeValue) → IsFile old id range → IsFile new id range
  file_kept id range is = record {
    file = is.file;
    has_id = (is.has_id.0, at_kept old.mappings new.mappings keeps.mappings (id - 1) is.file is.has_id.1);
    start = is.start;
    end = is.end;
    page_offset = is.page_offset;
    path = text_kept is.file.filename range.path is.path;
    build_id = text_kept is.file.build_id range.build_id is.build_id;
  }

  pub file_of_kept : (id : ℕ) (range : Option RangeValue) → IsFileOf old id range → IsFileOf new id range
  file_of_kept id None is = is
  file_of_kept id (Some range) is = file_kept id range is

  function_kept : (id : ℕ) (name file : List ℕ) → IsFunction old id name file → IsFunction new id name file
  function_kept id name file is = record {
    names = is.names;
    has_id = (is.has_id.0, at_kept old.functions new.functions keeps.functions (id - 1) is.names is.has_id.1);
    name_is = text_kept is.names.name name is.name_is;
    system_name = is.system_name;
    file_is = text_kept is.names.filename file is.file_is;
  }

  line_kept : (line : Line) (value : LineValue) → IsLine old line value → IsLine new line value
  line_kept line value is = record { function = function_kept line.function_id value.function value.file is.function; number = is.number }

  pub lines_kept : (lines : List Line) (values : List LineValue) → AreRelated (IsLine old) lines values → AreRelated (IsLine new) lines values
  lines_kept lines values are = related_by (IsLine old) (IsLine new) line_kept lines values are

  pub location_kept : (id : ℕ) (location : LocationValue) → IsLocation old id location → IsLocation new id location
  location_kept id location is = record {
    row = is.row;
    has_id = (is.has_id.0, at_kept old.locations new.locations keeps.locations (id - 1) is.row is.has_id.1);
    address = is.address;
    file = file_of_kept is.row.mapping_id location.mapping is.file;
    lines_are = lines_kept is.row.lines location.lines is.lines_are;
  }

  pub locations_kept : (ids : List ℕ) (locations : List LocationValue) → AreRelated (IsLocation old) ids locations → AreRelated (IsLocation new) ids locations
  locations_kept ids locations are = related_by (IsLocation old) (IsLocation new) location_kept ids locations are

  label_kept : (label : Label) (value : LabelValue) → IsLabel old label value → IsLabel new label value
  label_kept label value is = record {
    key = text_kept label.key value.key is.key;
    text = text_kept label.text value.text is.text;
    number = is.number;
  }

  pub labels_kept : (labels : List Label) (values : List LabelValue) → AreRelated (IsLabel old) labels values → AreRelated (IsLabel new) labels values
  labels_kept labels values are = related_by (IsLabel old) (IsLabel new) label_kept labels values are

  pub shown_kept : (ids : List ℕ) (labels : List Label) (shown : ShownSample) → IsShown old ids labels shown → IsShown new ids labels shown
  shown_kept ids labels shown is = record {
    locations = locations_kept ids shown.locations is.locations;
    labels_are = labels_kept labels shown.labels is.labels_are;
  }

-- Each value has one id.
module _ (tables : Tables) (once : AreOnce tables) where
  same_text : (first second : ℕ) (text : List ℕ) → IsText tables first text → IsText tables second text → first ≡ second
  same_text first second text is also = once.strings.once first second text is also

  same_id : {A : Type 0} → (rows : List A) → AreDistinct rows → (first second : ℕ) (row other : A) → HasId rows first row → HasId rows second other → row ≡ other → first ≡ second
  same_id {A} rows distinct first second row other has also same =
      let index = distinct (first - 1) (second - 1) row has.1 (also.1 ∙ ap (λ (r : A). Some r) (sym same)) in
      omega (arith, index, has.0, also.0)

  same_file : (first second : ℕ) (range : RangeValue) → IsFile tables first range → IsFile tables second range → first ≡ second
  same_file first second range is also =
      let start = is.start ∙ sym also.start in
      let end = is.end ∙ sym also.end in
      let page_offset = is.page_offset ∙ sym also.page_offset in
      let filename = same_text is.file.filename also.file.filename range.path is.path also.path in
      let build_id = same_text is.file.build_id also.file.build_id range.build_id is.build_id also.build_id in
      let same : is.file ≡ also.file = λ i. record { memory_start = start i; memory_limit = end i; file_offset = page_offset i; filename = filename i; build_id = build_id i } in
      same_id tables.mappings once.mappings first second is.file also.file is.has_id also.has_id same

  same_file_of : (first second : ℕ) (range : Option RangeValue) → IsFileOf tables first range → IsFileOf tables second range → first ≡ second
  same_file_of first second None is also = is ∙ sym also
  same_file_of first second (Some range) is also = same_file first second range is also

  same_function : (first second : ℕ) (name file : List ℕ) → IsFunction tables first name file → IsFunction tables second name file → first ≡ second
  same_function first second name file is also =
      let names = same_text is.names.name also.names.name name is.name_is also.name_is in
      let system_names = is.system_name ∙ names ∙ sym also.system_name in
      let files = same_text is.names.filename also.names.filename file is.file_is also.file_is in
      let same : is.names ≡ also.names = λ i. record { name = names i; system_name = system_names i; filename = files i } in
      same_id tables.functions once.functions first second is.names also.names is.has_id also.has_id same

  same_line : (first second : Line) (value : LineValue) → IsLine tables first value → IsLine tables second value → first ≡ second
  same_line first second value is also =
      let function = same_function first.function_id second.function_id value.function value.file is.function also.function in
      let number = is.number ∙ sym also.number in
      λ i. record { function_id = function i; line = number i }

  same_location : (first second : ℕ) (location : LocationValue) → IsLocation tables first location → IsLocation tables second location → first ≡ second
  same_location first second location is also =
      let file = same_file_of is.row.mapping_id also.row.mapping_id location.mapping is.file also.file in
      let address = is.address ∙ sym also.address in
      let lines = related_same (IsLine tables) same_line is.row.lines also.row.lines location.lines is.lines_are also.lines_are in
      let same : is.row ≡ also.row = λ i. record { mapping_id = file i; address = address i; lines = lines i } in
      same_id tables.locations once.locations first second is.row also.row is.has_id also.has_id same

  same_label : (first second : Label) (value : LabelValue) → IsLabel tables first value → IsLabel tables second value → first ≡ second
  same_label first second value is also =
      let key = same_text first.key second.key value.key is.key also.key in
      let text = same_text first.text second.text value.text is.text also.text in
      let number = is.number ∙ sym also.number in
      λ i. record { key = key i; text = text i; number = number i }

  pub same_locations : (ids others : List ℕ) (locations : List LocationValue) → AreRelated (IsLocation tables) ids locations → AreRelated (IsLocation tables) others locations → ids ≡ others
  same_locations ids others locations are also = related_same (IsLocation tables) same_location ids others locations are also

  pub same_labels : (labels others : List Label) (values : List LabelValue) → AreRelated (IsLabel tables) labels values → AreRelated (IsLabel tables) others values → labels ≡ others
  same_labels labels others values are also = related_same (IsLabel tables) same_label labels others values are also

-- Each id has one value.
module _ (tables : Tables) where
  one_text : (index : ℕ) (first second : List ℕ) → IsText tables index first → IsText tables index second → first ≡ second
  one_text index first second is also = some_same first second (sym is ∙ also)

  one_file : (id : ℕ) (first second : RangeValue) → IsFile tables id first → IsFile tables id second → first ≡ second
  one_file id first second is also =
      let file : is.file ≡ also.file = some_same is.file also.file (sym is.has_id.1 ∙ also.has_id.1) in
      let start = sym is.start ∙ ap (λ (f : MappedFile). f.memory_start) file ∙ also.start in
      let end = sym is.end ∙ ap (λ (f : MappedFile). f.memory_limit) file ∙ also.end in
      let page_offset = sym is.page_offset ∙ ap (λ (f : MappedFile). f.file_offset) file ∙ also.page_offset in
      let path = some_same first.path second.path (sym is.path ∙ ap (λ (f : MappedFile). slice_get tables.strings f.filename) file ∙ also.path) in
      let build_id = some_same first.build_id second.build_id (sym is.build_id ∙ ap (λ (f : MappedFile). slice_get tables.strings f.build_id) file ∙ also.build_id) in
      λ i. record { start = start i; end = end i; page_offset = page_offset i; path = path i; build_id = build_id i }

  one_file_of : (id : ℕ) (first second : Option RangeValue) → IsFileOf tables id first → IsFileOf tables id second → first ≡ second
  one_file_of id None None is also = refl
  one_file_of id None (Some range) is also = absurd (omega (arith, is, also.has_id.0))
  one_file_of id (Some range) None is also = absurd (omega (arith, also, is.has_id.0))
  one_file_of id (Some first) (Some second) is also = ap (λ (r : RangeValue). Some r) (one_file id first second is also)

  one_line : (line : Line) (first second : LineValue) → IsLine tables line first → IsLine tables line second → first ≡ second
  one_line line first second is also =
      let names : is.function.names ≡ also.function.names = some_same is.function.names also.function.names (sym is.function.has_id.1 ∙ also.function.has_id.1) in
      let function = some_same first.function second.function (sym is.function.name_is ∙ ap (λ (n : FunctionNames). slice_get tables.strings n.name) names ∙ also.function.name_is) in
      let file = some_same first.file second.file (sym is.function.file_is ∙ ap (λ (n : FunctionNames). slice_get tables.strings n.filename) names ∙ also.function.file_is) in
      let number = sym is.number ∙ also.number in
      λ i. record { function = function i; file = file i; line = number i }

  one_location : (id : ℕ) (first second : LocationValue) → IsLocation tables id first → IsLocation tables id second → first ≡ second
  one_location id first second is also =
      let row : is.row ≡ also.row = some_same is.row also.row (sym is.has_id.1 ∙ also.has_id.1) in
      let files = subst (λ (r : Place). IsFileOf tables r.mapping_id second.mapping) (sym row) also.file in
      let mapping = one_file_of is.row.mapping_id first.mapping second.mapping is.file files in
      let address = sym is.address ∙ ap (λ (r : Place). r.address) row ∙ also.address in
      let others = subst (λ (r : Place). AreRelated (IsLine tables) r.lines second.lines) (sym row) also.lines_are in
      let lines = related_one (IsLine tables) one_line is.row.lines first.lines second.lines is.lines_are others in
      λ i. record { mapping = mapping i; address = address i; lines = lines i }

  one_label : (label : Label) (first second : LabelValue) → IsLabel tables label first → IsLabel tables label second → first ≡ second
  one_label label first second is also =
      let key = one_text label.key first.key second.key is.key also.key in
      let text = one_text label.text first.text second.text is.text also.text in
      let number = sym is.number ∙ also.number in
      λ i. record { key = key i; text = text i; number = number i }

  pub one_shown : (ids : List ℕ) (labels : List Label) (first second : ShownSample) → IsShown tables ids labels first → IsShown tables ids labels second → first ≡ second
  one_shown ids labels first second is also =
      let locations = related_one (IsLocation tables) one_location ids first.locations second.locations is.locations also.locations in
      let values = related_one (IsLabel tables) one_label labels first.labels second.labels is.labels_are also.labels_are in
      λ i. record { locations = locations i; labels = values i }
