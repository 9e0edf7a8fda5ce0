mod Grades
